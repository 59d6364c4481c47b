-- What a search that went on shows.
use Rattle.std.proofs.Common.{◌≡◌, ◌≤◌, ◌∙◌, ◌++◌, ℕ, List, [], Bool, true, false, length, sym, ap, subst, append-nil, arith}
use Rattle.std.specs.Prelude.{All}
use Rattle.hw_model.specs.Problem.{Problem}
use Rattle.hw_model.specs.Rooms.{room_count}
use Rattle.hw_cert_lines.specs.declared.line.Line.{Line}
use Rattle.hw_cert_lines.specs.Lemmas.{lemmas_of}
use Rattle.hw_cert_lines.specs.Valid.{LineFits, Valid, verdict}
use Rattle.hw_cert_lines.specs.Lines.{is_closed, last_table}
use Rattle.hw_cert_lines.specs.Tolled.{bound_of}
use Rattle.hw_cert_course.specs.Courses.{HandsToCourse, CourseStands}
use Rattle.hw_search_resumed.specs.Searched.{IsSearched, TellsOf}
use Rattle.hw_search_resumed.specs.Going.{Resumes}
use Rattle.hw_cert_course.specs.declared.going_on.Course.{Course}
use Rattle.hw_search_resumed.specs.declared.resumed.Resumed.{Resumed}
use Rattle.hw_cert_course.proofs.Handed.{whole_course}

-- ---- what is told

-- what holds of the lines of a course holds of those that are told
pub told_resumes : {f : Problem} {budget : ℕ} {start : List Line} {course : Course} {r : Resumed} {is_spent : Bool} (more : List Line) → CourseStands f course → course.lines.items ≡ start ++ more → length (lemmas_of more) ≤ budget → (is_spent ≡ true → (length (lemmas_of more) ≡ budget) × (budget ≤ room_count f)) → TellsOf course is_spent r → Resumes f budget start r
told_resumes {f = f} {budget = budget} {start = start} {course = course} {r = r} more h parts few spent t =
    let whole = whole_course h in
    record {
      goes_on = record {
        more = more;
        parts = t.lines ∙ parts;
        fit = subst (λ (ls : List Line). All (LineFits f) ls) (sym t.lines) whole.fit;
        valid = subst (λ (ls : List Line). Valid f ls) (sym t.lines) whole.valid;
      };
      few = few;
      verdict = t.verdict ∙ ap (λ (g : Problem). verdict g course.lines.items) h.problem ∙ ap (verdict f) (sym t.lines);
      bound = t.bound ∙ ap bound_of (sym t.lines);
      table = t.table ∙ ap last_table (sym t.lines);
      spent = λ e.
          let open_course = t.spent e in
          let s = spent open_course.0 in
          record { lemmas = s.0; unclosed = ap is_closed t.lines ∙ open_course.1; rooms = s.1 };
    }

-- the start leaves nothing open
pub nothing_open : {f : Problem} {budget : ℕ} {course : Course} {r : Resumed} → CourseStands f course → TellsOf course false r → Resumes f budget course.lines.items r
nothing_open {course = course} h t = told_resumes [] h (sym (append-nil course.lines.items)) (omega arith) (λ e. absurd (cc)) t

-- the search has ended
pub went_on : {f : Problem} {budget : ℕ} {found : List Line} {course after : Course} {r : Resumed} {is_spent : Bool} → CourseStands f course → IsSearched f budget is_spent found → HandsToCourse course after found → TellsOf after is_spent r → Resumes f budget course.lines.items r
went_on {f = f} {budget = budget} {found = found} {after = after} {is_spent = is_spent} h s k t =
    let few : length (lemmas_of k.more) ≤ budget = omega (arith, k.lemmas, s.few) in
    told_resumes k.more (subst (λ (g : Problem). CourseStands g after) h.problem k.adds.stands) k.adds.parts few (λ e. (k.lemmas ∙ (s.spent e).0, (s.spent e).1)) t
