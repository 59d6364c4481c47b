-- The lines of a search, handed on.
use Rattle.std.proofs.Common.{◌≡◌, ◌+◌, ◌∙◌, ◌++◌, ◌∷◌, ℕ, List, [], Option, Some, None, length, refl, sym, ap, subst, append_assoc, append-nil, arith}
use Rattle.std.specs.Prelude.{All}
use Rattle.std.specs.List.{cons_option}
use Rattle.std.proofs.lemmas.List.Elements.{filter_map-append}
use Rattle.std.proofs.lemmas.List.{length-append}
use Rattle.hw_model.specs.declared.lit.Lit.{Lit}
use Rattle.hw_model.specs.Problem.{Problem}
use Rattle.hw_cert_lines.specs.declared.line.Line.{Line}
use Rattle.hw_cert_lines.specs.declared.line.Line.TheVariants as lines
use Rattle.hw_cert_lines.specs.Lemmas.{lemma_of, lemmas_of}
use Rattle.hw_cert_lines.specs.Refusals.{kept_refusal, refusal}
use Rattle.hw_cert_lines.specs.Valid.{LineFits, Valid}
use Rattle.hw_cert_lines.specs.Kept.{Kept, kept_of}
use Rattle.hw_check.specs.Follows.{Stops}
use Rattle.hw_check.specs.declared.stop.CheckStop.{CheckStop}
use Rattle.hw_check.specs.declared.stop.CheckStop.TheVariants as check_stops
use Rattle.hw_cert_course.specs.Courses.{AddsLines, CourseStopsFor, HandsToCourse, CourseStands, stop_as}
use Rattle.hw_cert_course.specs.Going.{LinesGoOn, SaysNoMore, LineFails}
use Rattle.hw_cert_course.specs.declared.going_on.Course.{Course}
use Rattle.hw_cert_course.specs.declared.stop.CourseStop.{CourseStop}
use Rattle.hw_cert_course.specs.declared.stop.CourseStop.TheVariants as stops

-- ---- lemmas

pub lemmas_on : (a b : List Line) → length (lemmas_of (a ++ b)) ≡ length (lemmas_of a) + length (lemmas_of b)
lemmas_on a b = ap length (filter_map-append lemma_of a b) ∙ length-append (lemmas_of a) (lemmas_of b)

pub no_lemma : (line : Line) → lemma_of line ≡ None → 0 ≡ length (lemmas_of (line ∷ []))
no_lemma line e = ap (λ (o : Option (List Lit)). length (cons_option o [])) (sym e)

-- ---- the lines that go on

pub whole_course : {f : Problem} {course : Course} → CourseStands f course → LinesGoOn f course.lines.items course.lines.items
whole_course {f = f} {course = course} h = record {
  more = [];
  parts = sym (append-nil course.lines.items);
  fit = subst (λ (g : Problem). All (LineFits g) course.lines.items) h.checked h.follows.fit;
  valid = subst (λ (g : Problem). Valid g course.lines.items) h.checked h.follows.valid;
}

pub longer : {f : Problem} {start middle all : List Line} (more : List Line) → middle ≡ start ++ more → LinesGoOn f middle all → LinesGoOn f start all
longer {start = start} more parts h = record {
  more = more ++ h.more;
  parts = h.parts ∙ ap (λ (ls : List Line). ls ++ h.more) parts ∙ append_assoc start more h.more;
  fit = h.fit;
  valid = h.valid;
}

pub stops_on : (f g : Problem) (start middle : List Line) (more : List Line) (stop : CourseStop) → g ≡ f → middle ≡ start ++ more → CourseStopsFor g middle stop → CourseStopsFor f start stop
stops_on f g start middle more (stops.Refused number cause) same parts h =
    let there = subst (λ (p : Problem). LineFails p middle number cause) same h in
    record { before = there.before; line = there.line; goes_on = longer more parts there.goes_on; fits = there.fits; news = there.news; counted = there.counted; refused = there.refused }
stops_on f g start middle more stops.NoMemory same parts h = tt

-- ---- on the way

pub record Along (entry now : Course) (all left : List Line) : Type 0 where
  pub more : List Line
  pub adds : AddsLines entry now more
  pub lemmas : length (lemmas_of more) + length (lemmas_of left) ≡ length (lemmas_of all)

pub along_start : {course : Course} (all : List Line) → CourseStands course.flat.now course → Along course course all all
along_start {course = course} all h = record {
  more = [];
  adds = record { stands = h; parts = sym (append-nil course.lines.items) };
  lemmas = omega arith;
}

pub along_next : {entry now after : Course} {all left next : List Line} {line : Line} → (h : Along entry now all left) → left ≡ line ∷ next → HandsToCourse now after (line ∷ []) → Along entry after all next
along_next {entry = entry} {after = after} {all = all} {left = left} {next = next} {line = line} h cut k =
    let here = lemmas_on h.more k.more in
    let there : length (lemmas_of left) ≡ length (lemmas_of (line ∷ [])) + length (lemmas_of next) = ap (λ (ls : List Line). length (lemmas_of ls)) cut ∙ lemmas_on (line ∷ []) next in
    let counted : length (lemmas_of (h.more ++ k.more)) + length (lemmas_of next) ≡ length (lemmas_of all) = omega (arith, here, there, h.lemmas, k.lemmas) in
    record {
      more = h.more ++ k.more;
      adds = record {
        stands = subst (λ (f : Problem). CourseStands f after) h.adds.stands.problem k.adds.stands;
        parts = k.adds.parts ∙ ap (λ (ls : List Line). ls ++ k.more) h.adds.parts ∙ append_assoc entry.lines.items h.more k.more;
      };
      lemmas = counted;
    }

pub along_stops : {entry now : Course} {all left : List Line} (stop : CourseStop) → Along entry now all left → CourseStopsFor now.flat.now now.lines.items stop → CourseStopsFor entry.flat.now entry.lines.items stop
along_stops {entry = entry} {now = now} stop h k = stops_on entry.flat.now now.flat.now entry.lines.items now.lines.items h.more stop h.adds.stands.problem h.adds.parts k

-- ---- one line

pub left_out : {course : Course} (line : Line) → CourseStands course.flat.now course → lemma_of line ≡ None → HandsToCourse course course (line ∷ [])
left_out {course = course} line h e = record { more = []; adds = record { stands = h; parts = sym (append-nil course.lines.items) }; lemmas = no_lemma line e }

-- no lemma says no more than the lines before it
pub known_lemma : (f : Problem) (kept : Kept) (line : Line) → SaysNoMore f kept line → lemma_of line ≡ None
known_lemma f kept (lines.Table table) h = refl
known_lemma f kept (lines.Bound bound) h = refl
known_lemma f kept line h = absurd h

-- the checker refused a line, or memory ran out
pub not_taken : {course : Course} (line : Line) (number : ℕ) (stop : CheckStop) → CourseStands course.flat.now course → LineFits course.flat.now line → (SaysNoMore course.flat.now course.checker.kept line → ⊥) → number ≡ length course.lines.items + 2 → Stops stop (kept_refusal course.checker.problem course.checker.kept line) → CourseStopsFor course.flat.now course.lines.items (stop_as number stop)
not_taken {course = course} line number (check_stops.Refused cause) h fits news counted found =
    let kept = subst (λ (k : Kept). kept_refusal course.checker.problem k line ≡ Some cause) h.follows.kept found in
    let same : course.checker.kept ≡ kept_of course.flat.now course.lines.items = h.follows.kept ∙ ap (λ (f : Problem). kept_of f course.lines.items) h.checked in
    record {
      before = course.lines.items;
      line = line;
      goes_on = whole_course h;
      fits = fits;
      news = λ no_more. news (subst (λ (k : Kept). SaysNoMore course.flat.now k line) (sym same) no_more);
      counted = counted;
      refused = subst (λ (f : Problem). refusal f course.lines.items line ≡ Some cause) h.checked kept;
    }
not_taken line number check_stops.NoMemory h fits news counted found = tt

pub fit_as : (f g : Problem) (xs ys : List Line) → g ≡ f → ys ≡ xs → All (LineFits f) xs → All (LineFits g) ys
fit_as f g xs ys same is h = subst (λ (p : Problem). All (LineFits p) ys) (sym same) (subst (λ (ls : List Line). All (LineFits f) ls) (sym is) h)
