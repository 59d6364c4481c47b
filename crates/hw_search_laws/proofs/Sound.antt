-- What an answer of solving means.
use Rattle.std.proofs.Common.{◌≡◌, ℕ, ◌≤◌, true, List, Some, None, option_and_then, IsSomeAnd, sym, ap, ◌∙◌, subst}
use Rattle.hw_model.specs.Problem.{Problem}
use Rattle.hw_model.specs.Limits.{IsFlat}
use Rattle.hw_model.specs.Timetables.{cargo, IsBest}
use Rattle.hw_model.specs.Rooms.{room_count}
use Rattle.hw_cert_lines.specs.declared.check.Verdict.TheVariants as verdicts
use Rattle.hw_cert_lines.specs.declared.line.Line.{Line}
use Rattle.hw_cert_lines.specs.Lines.{best_of}
use Rattle.hw_cert_lines.specs.Valid.{verdict_by, verdict}
use Rattle.hw_cert_laws.proofs.Proved.{optimal, infeasible}
use Rattle.hw_search_laws.specs.declared.outcome.Solved.{Solved}
use Rattle.hw_search_laws.specs.declared.outcome.Solved.TheVariants.{Optimal, Infeasible, Unfinished, NoMemory, LogFailed}
use Rattle.hw_search_laws.specs.Solving.{SolveWrites, AnswerMeans}
use Rattle.hw_search_laws.proofs.Bounds.{few_new}

pub solved : (f : Problem) (budget : ℕ) (answer : Solved) (before now : ℕ) (all : List Line) → IsFlat f → SolveWrites f budget answer before now all → AnswerMeans f budget answer
solved f budget (Optimal table c) before now all flat w =
    let best : best_of f all ≡ Some c = ap (option_and_then (cargo f)) w.tells.0 ∙ w.tells.1 in
    let v : verdict f all ≡ verdicts.Optimal c = ap (λ b. verdict_by b (best_of f all)) (sym w.proved_just) ∙ ap (verdict_by true) best in
    subst (λ o. IsSomeAnd o (λ t. IsBest f t c)) w.tells.0 (optimal f all c flat w.fit w.valid v)
solved f budget Infeasible before now all flat w =
    let best : best_of f all ≡ None = ap (option_and_then (cargo f)) w.tells in
    let v : verdict f all ≡ verdicts.Infeasible = ap (λ b. verdict_by b (best_of f all)) (sym w.proved_just) ∙ ap (verdict_by true) best in
    infeasible f all flat w.fit w.valid v
solved f budget (Unfinished table) before now all flat w = subst (λ n. n ≤ room_count f) w.tells.1 (few_new f all flat w.fit w.new)
solved f budget (NoMemory table) before now all flat w = tt
solved f budget LogFailed before now all flat w = tt
