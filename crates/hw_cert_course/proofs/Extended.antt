-- A course to which lines were added.
use Rattle.std.proofs.Common.{◌≡◌, ◌∙◌, ◌++◌, List, [], ◌∷◌, Option, Some, None, Result, Ok, Err, inl, inr, refl, sym, ap, subst, append_assoc, append-nil}
use Rattle.std.specs.Prelude.{option_and_then}
use Rattle.hw_model.specs.declared.lit.Lit.{Lit}
use Rattle.hw_model.specs.Problem.{Problem}
use Rattle.hw_cert_lines.specs.declared.line.Line.{Line}
use Rattle.hw_cert_lines.specs.declared.line.Line.TheVariants as lines
use Rattle.hw_cert_lines.specs.Kept.{Kept}
use Rattle.hw_cert_lines.specs.Lines.{clause_of}
use Rattle.hw_cert_course.specs.Courses.{AddsClause, CourseStands, CourseStopsFor, ExtendsBy, LeavesOut, OfferingMeets, OfferingOneMeets, TakeMeets}
use Rattle.hw_cert_course.specs.Going.{SaysNoMore}
use Rattle.hw_cert_course.specs.declared.going_on.Course.{Course}
use Rattle.hw_cert_course.specs.declared.stop.CourseStop.{CourseStop}
use Rattle.hw_cert_course.proofs.Handed.{stops_on}

-- ---- one after another

pub extends_self : {course : Course} → CourseStands course.flat.now course → ExtendsBy course course
extends_self {course = course} h = record { more = []; adds = record { stands = h; parts = sym (append-nil course.lines.items) } }

pub extends_on : {a b c : Course} → ExtendsBy a b → ExtendsBy b c → ExtendsBy a c
extends_on {a = a} {c = c} h k = record {
  more = h.more ++ k.more;
  adds = record {
    stands = subst (λ (f : Problem). CourseStands f c) h.adds.stands.problem k.adds.stands;
    parts = k.adds.parts ∙ ap (λ (ls : List Line). ls ++ k.more) h.adds.parts ∙ append_assoc a.lines.items h.more k.more;
  };
}

pub stops_after : {a b : Course} (stop : CourseStop) → ExtendsBy a b → CourseStopsFor b.flat.now b.lines.items stop → CourseStopsFor a.flat.now a.lines.items stop
stops_after {a = a} {b = b} stop h k = stops_on a.flat.now b.flat.now a.lines.items b.lines.items h.more stop h.adds.stands.problem h.adds.parts k

-- ---- a line that is offered

-- it was taken, or the checker refused it
pub by_take : (course : Course) (line : Line) (result : Result Course CourseStop) → TakeMeets course line result → OfferingMeets course line result
by_take course line (Ok after) h = inl h
by_take course line (Err stop) h = h

-- where there is none
pub none_offered : (course : Course) (line : Option Line) → line ≡ None → OfferingOneMeets course line (Ok course)
none_offered course line e = subst (λ (o : Option Line). OfferingOneMeets course o (Ok course)) (sym e) refl

-- where there is one
pub one_offered : (course : Course) (line : Option Line) (offered : Line) (result : Result Course CourseStop) → line ≡ Some offered → OfferingMeets course offered result → OfferingOneMeets course line result
one_offered course line offered result e h = subst (λ (o : Option Line). OfferingOneMeets course o result) (sym e) h

-- ---- what an offer adds

nothing_added : {course : Course} → CourseStands course.flat.now course → AddsClause course course None
nothing_added {course = course} h = record { more = []; adds = record { stands = h; parts = sym (append-nil course.lines.items) }; clauses = refl }

no_clause : (f : Problem) (kept : Kept) (line : Line) → SaysNoMore f kept line → clause_of line ≡ None
no_clause f kept (lines.Table table) h = refl
no_clause f kept (lines.Bound bound) h = refl
no_clause f kept line h = absurd h

left_adds : (course after : Course) (line : Line) → CourseStands course.flat.now course → LeavesOut course after line → AddsClause course after (clause_of line)
left_adds course after line stands h =
    let none : clause_of line ≡ None = no_clause course.flat.now course.checker.kept line h.no_more in
    subst (λ (o : Option (List Lit)). AddsClause course after o) (sym none) (subst (λ (now : Course). AddsClause course now None) (sym h.same) (nothing_added stands))

pub offered_adds : (course after : Course) (line : Line) → CourseStands course.flat.now course → OfferingMeets course line (Ok after) → AddsClause course after (clause_of line)
offered_adds course after line stands (inl h) = record { more = line ∷ []; adds = h; clauses = refl }
offered_adds course after line stands (inr h) = left_adds course after line stands h

same_course : {course after : Course} → ◌≡◌ {A = Result Course CourseStop} (Ok after) (Ok course) → after ≡ course
same_course e = cc

pub one_adds : (course after : Course) (line : Option Line) → CourseStands course.flat.now course → OfferingOneMeets course line (Ok after) → AddsClause course after (option_and_then clause_of line)
one_adds course after None stands h = subst (λ (now : Course). AddsClause course now None) (sym (same_course h)) (nothing_added stands)
one_adds course after (Some line) stands h = offered_adds course after line stands h
