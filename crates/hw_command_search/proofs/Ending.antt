-- A search whose lines went to Proof.
use Rattle.std.proofs.Common.{◌≡◌, ◌∙◌, ℕ, List, true, false, Option, Some, None, Result, Ok, Err, inr, sym, ap, subst, arith}
use Rattle.std.specs.Prelude.{IfSome, is_err}
use Rattle.hw_model.specs.Problem.{Problem}
use Rattle.hw_desk.specs.State.{DeskState, Rose}
use Rattle.hw_desk.specs.Calls.{Makes}
use Rattle.hw_desk.specs.Whole.{SendsText}
use Rattle.hw_desk.specs.declared.desk.Tray.TheVariants.{Proof}
use Rattle.hw_desk.proofs.Chain.{only_tray_on}
use Rattle.hw_cert.specs.Logs.{outside_of, Outside}
use Rattle.hw_cert.specs.Told.{header_line, is_told, log_of}
use Rattle.hw_command.proofs.OnProof.{by_lines, outside_only, whole_text}
use Rattle.hw_command_search.specs.Searchers.{Searcher}
use Rattle.hw_command_search.specs.Searching.{SearchMeets, SearchLeaves, SearchesTo}
use Rattle.hw_command_search.specs.declared.finding.Found.{Found}

-- ---- what is on Proof

leaves : (q : Searcher) (f : Problem) (budget : ℕ) (found : Option Found) (x y z : DeskState) → y.write_faults ≡ x.write_faults → is_told q.version (z.trays Proof).sent ≡ true → SearchMeets q f budget (log_of q.version y) found (log_of q.version z) → SearchLeaves q f budget x z found
leaves q f budget (Some found) x y z before told m = (
  m.leaves.0 ∙ before,
  m.leaves.1,
  by_lines q.version (z.trays Proof).sent told m.leaves.2 (λ t bytes text tells. record { lines = t.lines; text = whole_text q.version text tells.whole; written = tells.written; shows = tells.shows }),
)
leaves q f budget None x y z before told m = (
  rose m.leaves.0,
  by_lines q.version (z.trays Proof).sent told m.leaves.1 (λ t bytes text tells. inr (record { told = t; text = text; written = tells.written; next = tells.next })),
)
  where
    rose : Rose y.write_faults z.write_faults → Rose x.write_faults z.write_faults
    rose h = omega (arith, before)

-- ---- the search has run

ends_well : {q : Searcher} {x y z w : DeskState} {name : List ℕ} {f : Problem} {budget : ℕ} {E F : Type 0} {u v : Unit {0}} (found : Option Found) → Makes {E = E} Proof name x y (Ok u) → SendsText {E = F} Proof (header_line q.version) y z (Ok v) → outside_of w ≡ outside_of z → is_told q.version (w.trays Proof).sent ≡ true → SearchMeets q f budget (log_of q.version z) found (log_of q.version w) → SearchesTo q f budget name x w found
ends_well {q = q} {x = x} {z = z} {w = w} {name = name} {f = f} {budget = budget} found h k same told m = record {
  only = only_tray_on (only_tray_on h.only k.only) (outside_only same m.later);
  made = ap (λ (o : Outside). o.made) same ∙ k.ok.made ∙ h.made;
  named = subst (λ (n : Option (List ℕ)). IfSome n (λ t. t ≡ name)) (sym (ap (λ (o : Outside). o.named) same ∙ k.ok.named)) h.named;
  leaves = leaves q f budget found x z w (k.kept ∙ h.kept) told m;
}

pub search_ends : {q : Searcher} {x y z w : DeskState} {name : List ℕ} {f : Problem} {budget : ℕ} {E F : Type 0} (made : Result Unit E) (sent : Result Unit F) (found : Option Found) → is_err made ≡ false → is_err sent ≡ false → Makes Proof name x y made → SendsText Proof (header_line q.version) y z sent → outside_of w ≡ outside_of z → is_told q.version (w.trays Proof).sent ≡ true → SearchMeets q f budget (log_of q.version z) found (log_of q.version w) → SearchesTo q f budget name x w found
search_ends (Err e) sent found a b h k same told m = absurd (cc)
search_ends (Ok u) (Err e) found a b h k same told m = absurd (cc)
search_ends {q = q} (Ok u) (Ok v) found a b h k same told m = ends_well {q = q} found h k same told m
