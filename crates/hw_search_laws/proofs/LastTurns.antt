-- Turns after which a search goes on.
use Rattle.std.proofs.Common.{◌≡◌, ◌⊎◌, false, ap, inl, inr}
use Rattle.hw_search_laws.specs.declared.outcome.Turn.{Turn}
use Rattle.hw_search_laws.specs.declared.outcome.Turn.TheVariants as turns
use Rattle.hw_search_laws.specs.Turns.{is_last}

pub goes : (t : Turn) → (t ≡ turns.Decided) ⊎ ((t ≡ turns.Better) ⊎ (t ≡ turns.Lemma)) → is_last t ≡ false
goes t (inl e) = ap is_last e
goes t (inr (inl e)) = ap is_last e
goes t (inr (inr e)) = ap is_last e
