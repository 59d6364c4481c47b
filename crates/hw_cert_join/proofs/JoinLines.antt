-- Lines that are joined, certificate by certificate.
use Rattle.std.proofs.Common.{◌≡◌, ◌∙◌, ◌++◌, ◌↔◌, ℕ, Bool, true, false, IsTrue, List, [], Option, Some, None, Result, Ok, Err, get_or, refl, sym, ap, subst}
use Rattle.std.specs.Prelude.{All, Vec}
use Rattle.std.specs.declared.alloc.Global.{Global}
use Rattle.hw_model.specs.Problem.{Problem, shape_of}
use Rattle.hw_cert_lines.specs.declared.line.Line.{Line}
use Rattle.hw_cert_lines.specs.declared.line.Line.TheVariants as lines
use Rattle.hw_cert_lines.specs.Lines.{best_of, is_closed}
use Rattle.hw_cert_lines.specs.Tolled.{bound_of}
use Rattle.hw_cert_lines.specs.Valid.{LineFits, Valid, verdict}
use Rattle.hw_split_text.specs.declared.node.Node.{Node}
use Rattle.hw_split_text.specs.Splits.{Branch, branch_room, split_parts}
use Rattle.hw_cert_course.specs.Courses.{CourseStands, ExtendsBy, HandsToCourse, OfferingMeets}
use Rattle.hw_cert_course.specs.declared.going_on.Course.{Course}
use Rattle.hw_cert_course.specs.declared.stop.CourseStop.{CourseStop}
use Rattle.hw_cert_course.proofs.Extended.{extends_on, offered_adds, stops_after}
use Rattle.hw_cert_course.proofs.Handed.{whole_course}
use Rattle.hw_cert_closes.proofs.Falsified.{still_closes}
use Rattle.hw_cert_join.specs.Joining.{ClosesEach, ClosesWhat, EachCarriesNoMore, EndingMeets, LeavesNoneOpen, IsFirstOpen, JoinsEach, OpenAt, TakesBest, TakesOverEach, TellsJoined, closes_branch}
use Rattle.hw_cert_join.specs.declared.joined.Joined.{Joined}
use Rattle.hw_cert_join.proofs.Bests.{best_on, best_taken, stands_from}
use Rattle.hw_cert_join.proofs.Covered.{each_stays, ended}

-- ---- by what a call did

-- lemmas were handed on
pub by_hand_all : {course after : Course} {lines : List Line} → HandsToCourse course after lines → ExtendsBy course after
by_hand_all h = record { more = h.more; adds = h.adds }

-- nothing was open
pub closed_now : {is_open closed : Bool} → (IsTrue is_open ↔ closed ≡ false) → is_open ≡ false → closed ≡ true
closed_now {closed = true} same e = refl
closed_now {is_open = is_open} {closed = false} same e = let told : IsTrue false = subst IsTrue e (same.1 refl) in absurd cc

pub ended_before : {course : Course} → ExtendsBy course course → is_closed course.lines.items ≡ true → LeavesNoneOpen course course
ended_before h closed = record { extends = h; closed = closed }

-- the line without literals was offered
pub by_end : (course : Course) (hints : List ℕ) (result : Result Course CourseStop) → CourseStands course.flat.now course → OfferingMeets course (lines.Lemma [] hints) result → EndingMeets course result
by_end course hints (Ok after) stands h = ended (offered_adds course after (lines.Lemma [] hints) stands h)
by_end course hints (Err stop) stands h = h

-- after other lines
pub ends_on : (a b : Course) (result : Result Course CourseStop) → ExtendsBy a b → EndingMeets b result → EndingMeets a result
ends_on a b (Ok after) h k = record { extends = extends_on h k.extends; closed = k.closed }
ends_on a b (Err stop) h k = stops_after stop h k

-- ---- the parts

closes_more : (f : Problem) (all before more : List Line) (branch : Branch) → all ≡ before ++ more → closes_branch f before branch ≡ true → closes_branch f all branch ≡ true
closes_more f all before more branch parts e = still_closes (branch_room (shape_of f) branch) all before more parts e

closes_each_more : (f : Problem) (nodes : List Node) (all before more : List Line) → all ≡ before ++ more → ClosesEach f nodes before → ClosesEach f nodes all
closes_each_more f nodes all before more parts h = λ i d lt. closes_more f all before more (get_or (split_parts nodes) i d) parts (h i d lt)

-- ---- what they show

lines_of : {f : Problem} {nodes : List Node} {certs : List (Vec Line Global)} {course : Course} {first : Option ℕ} {j : Joined} → CourseStands f course → OpenAt f nodes course.lines.items first → (first ≡ None → is_closed course.lines.items ≡ true) → All (λ cert. ClosesWhat course.lines.items cert.items) certs → EachCarriesNoMore f (best_of f course.lines.items) certs → TellsJoined course first j → JoinsEach f nodes certs j
lines_of {f = f} {nodes = nodes} {certs = certs} {course = course} {first = first} {j = j} h open_at closed covers best t =
    let whole = whole_course h in
    record {
      joins = record {
        fit = subst (λ (ls : List Line). All (LineFits f) ls) (sym t.lines) whole.fit;
        valid = subst (λ (ls : List Line). Valid f ls) (sym t.lines) whole.valid;
        verdict = t.verdict ∙ ap (λ (g : Problem). verdict g course.lines.items) h.problem ∙ ap (verdict f) (sym t.lines);
        bound = t.bound ∙ ap bound_of (sym t.lines);
        first = subst (λ (o : Option ℕ). OpenAt f nodes j.lines.items o) (sym t.first) (subst (λ (ls : List Line). OpenAt f nodes ls first) (sym t.lines) open_at);
        closed = λ e. ap is_closed t.lines ∙ closed (sym t.first ∙ e);
      };
      closes = subst (λ (ls : List Line). All (λ cert. ClosesWhat ls cert.items) certs) (sym t.lines) covers;
      best = subst (λ (ls : List Line). EachCarriesNoMore f (best_of f ls) certs) (sym t.lines) best;
    }

-- a course without lines that took the best timetable, and then the lines of each certificate
pub record TakesAll (f : Problem) (certs : List (Vec Line Global)) (course : Course) : Type 0 where
  pub stands : CourseStands f course
  pub closes : All (λ cert. ClosesWhat course.lines.items cert.items) certs
  pub best : EachCarriesNoMore f (best_of f course.lines.items) certs

pub all_taken : {f : Problem} {certs : List (Vec Line Global)} {empty first course : Course} → CourseStands f empty → TakesBest empty first certs → TakesOverEach first course certs → TakesAll f certs course
all_taken {certs = certs} h best each =
    let stands = stands_from h best.extends in
    record {
      stands = stands_from stands each.extends;
      closes = each.closes;
      best = best_on certs stands each.extends (best_taken h best);
    }

pub joined_open : {f : Problem} {nodes : List Node} {certs : List (Vec Line Global)} {course : Course} {j : Joined} (number : ℕ) → TakesAll f certs course → IsFirstOpen f nodes course.lines.items number → TellsJoined course (Some number) j → JoinsEach f nodes certs j
joined_open number h is t = lines_of {first = Some number} h.stands is (λ e. absurd (cc)) h.closes h.best t

pub joined_closed : {f : Problem} {nodes : List Node} {certs : List (Vec Line Global)} {course after : Course} {j : Joined} → TakesAll f certs course → ClosesEach f nodes course.lines.items → LeavesNoneOpen course after → TellsJoined after None j → JoinsEach f nodes certs j
joined_closed {f = f} {nodes = nodes} {certs = certs} {course = course} {after = after} h closes k t =
    lines_of {first = None} (stands_from h.stands k.extends) (closes_each_more f nodes after.lines.items course.lines.items k.extends.more k.extends.adds.parts closes) (λ e. k.closed) (each_stays certs k.extends h.closes) (best_on certs h.stands k.extends h.best) t
