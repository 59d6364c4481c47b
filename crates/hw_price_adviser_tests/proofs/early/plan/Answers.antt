use Rattle.std.proofs.Common.{ℕ, List, Option, All, subst, sym}
use Rattle.hw_model.specs.Problem.{Problem}
use Rattle.hw_cert_lines.specs.declared.line.Line.{Line}
use Rattle.hw_cert_lines.specs.Valid.{LineFits}
use Rattle.hw_cert.specs.Logs.{memory_log}
use Rattle.hw_search_laws.specs.declared.outcome.Solved.{Solved}
use Rattle.hw_search_laws.specs.Proving.{ProveMeets, ProveWrites}
use Rattle.hw_price_adviser_tests.proofs.early.plan.Goals as goal

plan_fits : {f : Problem} {budget : ℕ} {answer : Solved} {bound : Option ℕ} {own all : List Line} → ProveMeets f budget (memory_log own) answer bound (memory_log all) → All (LineFits f) all
plan_fits {f = f} {budget = budget} {answer = answer} {bound = bound} {all = all} h = let w : ProveWrites f budget answer bound 0 0 all = h.writes in w.good.fit

pub returns : goal.returns
returns c = record { fit = subst (λ (lines : List Line). All (LineFits c.args.flat.now) lines) (sym c.into_lines.ensures) (plan_fits c.prove-proved.ensures.proves) }
