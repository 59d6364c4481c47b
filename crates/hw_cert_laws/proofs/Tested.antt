-- The tests of tables, sources, lemmas and deletions find no cause exactly where what is claimed holds.
use Rattle.std.proofs.Common.{◌≡◌, ℕ, Bool, true, false, cond, not, List, [], ◌∷◌, Option, Some, None, find, All, IsSome, IsSomeAnd, IsTrue, is_none, is_some, refl, ap}
use Rattle.std.proofs.lemmas.List.Elements.{All-nil, All-cons, All-head, All-tail}
use Rattle.hw_model.specs.declared.lit.Lit.{Lit}
use Rattle.hw_model.specs.Timetables.{beats}
use Rattle.hw_model.specs.Replay.{Replayed, conflict, loose, no_conflict}
use Rattle.hw_cert_lines.specs.declared.check.CheckWord.TheVariants as words
use Rattle.hw_cert_lines.specs.declared.check.Refusal.{Refusal}
use Rattle.hw_cert_lines.specs.Refusals.{table_refusal, lemma_refusal, replay_refusal, refused, delete_refusal}

-- ---- tables

pub table_from : (o c best : Option ℕ) → table_refusal (is_none o) c best ≡ None → (o ≡ None) × IsSomeAnd c (λ d. IsTrue (beats d best))
table_from (Some x) c best e = absurd cc
table_from None None best e = absurd cc
table_from None (Some d) best e = (refl, passes (beats d best) _ e)
  where
    passes : (b : Bool) (r : Refusal) → cond b None (Some r) ≡ None → b ≡ true
    passes true r e = refl
    passes false r e = absurd cc

pub from_table : (o c best : Option ℕ) → o ≡ None → IsSomeAnd c (λ d. IsTrue (beats d best)) → table_refusal (is_none o) c best ≡ None
from_table (Some x) c best e h = absurd cc
from_table None None best e h = absurd h
from_table None (Some d) best e h = ap (λ b. cond b None (refused words.Worse)) h

-- ---- sources

pub source_from : (b : Bool) → cond b None (refused words.Refute) ≡ None → b ≡ true
source_from true e = refl
source_from false e = absurd cc

-- ---- lemmas

pub all_there : (h : ℕ → Option (List Lit)) (ids : List ℕ) → find (λ id. is_none (h id)) ids ≡ None → All (λ id. IsSome (h id)) ids
all_there h [] e = All-nil (λ id. IsSome (h id))
all_there h (id ∷ ids) e =
    let parts = found (is_some (h id)) id (find (λ id. is_none (h id)) ids) e in
    All-cons (λ id. IsSome (h id)) id ids parts.0 (all_there h ids parts.1)
  where
    found : (b : Bool) (id : ℕ) (rest : Option ℕ) → cond (not b) (Some id) rest ≡ None → (b ≡ true) × (rest ≡ None)
    found true id rest e = (refl, e)
    found false id rest e = absurd cc

pub none_missing : (h : ℕ → Option (List Lit)) (ids : List ℕ) → All (λ id. IsSome (h id)) ids → find (λ id. is_none (h id)) ids ≡ None
none_missing h [] all = refl
none_missing h (id ∷ ids) all = skips (is_some (h id)) id _ (All-head (λ id. IsSome (h id)) id ids all) (none_missing h ids (All-tail (λ id. IsSome (h id)) id ids all))
  where
    skips : (b : Bool) (id : ℕ) (rest : Option ℕ) → b ≡ true → rest ≡ None → cond (not b) (Some id) rest ≡ None
    skips true id rest e r = r
    skips false id rest e r = absurd cc

replay_from : (hints : List ℕ) (end : Replayed) → replay_refusal hints end ≡ None → end ≡ conflict
replay_from hints conflict e = refl
replay_from hints (loose place) e = absurd cc
replay_from hints no_conflict e = absurd cc

from_replay : (hints : List ℕ) (end : Replayed) → end ≡ conflict → replay_refusal hints end ≡ None
from_replay hints conflict e = refl
from_replay hints (loose place) e = absurd cc
from_replay hints no_conflict e = absurd cc

pub lemma_from : (o : Option ℕ) (hints : List ℕ) (end : Replayed) → lemma_refusal o hints end ≡ None → (o ≡ None) × (end ≡ conflict)
lemma_from None hints end e = (refl, replay_from hints end e)
lemma_from (Some id) hints end e = absurd cc

pub from_lemma : (o : Option ℕ) (hints : List ℕ) (end : Replayed) → o ≡ None → end ≡ conflict → lemma_refusal o hints end ≡ None
from_lemma None hints end e d = from_replay hints end d
from_lemma (Some id) hints end e d = absurd cc

pub delete_from : (o : Option ℕ) → delete_refusal o ≡ None → o ≡ None
delete_from None e = refl
delete_from (Some id) e = absurd cc
