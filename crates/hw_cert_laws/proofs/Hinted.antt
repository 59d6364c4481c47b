-- Lemmas and deletions that are refused are wrong as their words say.
use Rattle.std.proofs.Common.{◌≡◌, ℕ, zero, suc, ◌+◌, ◌<◌, ◌≤◌, cond, List, [], ◌∷◌, Option, Some, None, find, filter_map, length, All, IsSome, IfSome, is_none, is_some, refl, ap, subst, arith, slice_get}
use Rattle.std.proofs.lemmas.List.Elements.{All-head, All-tail}
use Rattle.std.specs.List.{cons_option}
use Rattle.hw_lemmas.proofs.Lists.{stands_at}
use Rattle.hw_model.specs.declared.lit.Lit.{Lit}
use Rattle.hw_model.specs.declared.narrowing.Narrowed.{Narrowed}
use Rattle.hw_model.specs.declared.narrowing.Narrowed.TheVariants.{Same, Cut, Conflict, Loose}
use Rattle.hw_model.specs.Problem.{Problem}
use Rattle.hw_model.specs.Rooms.{RoomModel}
use Rattle.hw_model.specs.Replay.{Replayed, conflict, loose, no_conflict, narrowing, room_after, ends_by, replay_from, replay}
use Rattle.hw_cert_lines.specs.declared.line.Line.{Line}
use Rattle.hw_cert_lines.specs.declared.line.Line.TheVariants as lines
use Rattle.hw_cert_lines.specs.Lines.{live}
use Rattle.hw_cert_lines.specs.Valid.{denied_room, hinted}
use Rattle.hw_cert_lines.specs.Refusals.{lemma_refusal, delete_refusal}
use Rattle.hw_cert_laws.specs.Causes.{FirstDead}
use Rattle.hw_cert_laws.proofs.Tested.{all_there}
use Rattle.hw_cert_laws.proofs.Unpriced.{Caused}

-- ---- numbers that aren't live

first_from : (before : List Line) (ids : List ℕ) (id : ℕ) → find (λ other. is_none (live before other)) ids ≡ Some id → FirstDead before ids id
first_from before [] id e = absurd cc
first_from before (x ∷ ids) id e = by (live before x) refl (first_from before ids id) e
  where
    by : (o : Option (List Lit)) → live before x ≡ o → (find (λ other. is_none (live before other)) ids ≡ Some id → FirstDead before ids id) → cond (is_none o) (Some x) (find (λ other. is_none (live before other)) ids) ≡ Some id → FirstDead before (x ∷ ids) id
    by None dead rest found =
        let same : x ≡ id = cc in
        record { place = 0; stands = found; dead = subst (λ n. live before n ≡ None) same dead; earlier = λ i lt. absurd (omega (arith, lt)) }
    by (Some lits) there rest found =
        let more = rest found in
        record { place = suc more.place; stands = more.stands; dead = more.dead; earlier = λ i lt. earlier_of more i lt there }
      where
        earlier_of : (more : FirstDead before ids id) (i : ℕ) → i < suc more.place → live before x ≡ Some lits → IfSome (slice_get (x ∷ ids) i) (λ other. IsSome (live before other))
        earlier_of more zero lt there = ap is_some there
        earlier_of more (suc i) lt there = more.earlier i (omega (arith, lt))

-- ---- lemmas

-- the place at which a replay ends loose
loose_place : (step : Narrowed) (at : ℕ) (rest : Replayed) (place many : ℕ) → ends_by step at rest ≡ loose place → (rest ≡ loose place → (at + 1 ≤ place) × (place < at + 1 + many)) → (at ≤ place) × (place < at + suc many)
loose_place Same at rest place many e h =
    let p = h e in
    (omega (arith, p.0), omega (arith, p.1))
loose_place (Cut lit) at rest place many e h =
    let p = h e in
    (omega (arith, p.0), omega (arith, p.1))
loose_place Conflict at rest place many e h = absurd cc
loose_place (Loose first second) at rest place many e h =
    let same : at ≡ place = cc in
    (omega (arith, same), omega (arith, same))

loose_within : (at : ℕ) (room : RoomModel) (clauses : List (List Lit)) (place : ℕ) → replay_from at room clauses ≡ loose place → (at ≤ place) × (place < at + length clauses)
loose_within at room [] place e = absurd cc
loose_within at room (clause ∷ clauses) place e =
    let p = loose_place (narrowing clause room) at (replay_from (at + 1) (room_after (narrowing clause room) room) clauses) place (length clauses) e (loose_within (at + 1) (room_after (narrowing clause room) room) clauses place) in
    (p.0, omega (arith, p.1))

-- live hints name as many clauses as there are hints
as_many : (h : ℕ → Option (List Lit)) (ids : List ℕ) → All (λ id. IsSome (h id)) ids → length (filter_map h ids) ≡ length ids
as_many h [] all = refl
as_many h (id ∷ ids) all = by (h id) (All-head (λ id. IsSome (h id)) id ids all) (as_many h ids (All-tail (λ id. IsSome (h id)) id ids all))
  where
    by : (o : Option (List Lit)) → IsSome o → length (filter_map h ids) ≡ length ids → length (cons_option o (filter_map h ids)) ≡ suc (length ids)
    by None some e = absurd cc
    by (Some lits) some e = ap suc e

pub lemma_cause : (f : Problem) (before : List Line) (clause : List Lit) (hints : List ℕ) → Caused f before (lines.Lemma clause hints) (lemma_refusal (find (λ id. is_none (live before id)) hints) hints (replay (denied_room f clause) (hinted before hints)))
lemma_cause f before clause hints = by (find (λ id. is_none (live before id)) hints) refl (replay (denied_room f clause) (hinted before hints)) refl
  where
    by : (o : Option ℕ) → find (λ id. is_none (live before id)) hints ≡ o → (end : Replayed) → replay (denied_room f clause) (hinted before hints) ≡ end → Caused f before (lines.Lemma clause hints) (lemma_refusal o hints end)
    by (Some id) dead end e = record { clause = clause; hints = hints; is = refl; first = first_from before hints id dead }
    by None there conflict e = tt
    by None there (loose place) e =
        let all = all_there (live before) hints there in
        let within = loose_within 0 (denied_room f clause) (hinted before hints) place e in
        record { clause = clause; hints = hints; is = refl; all_live = all; place = place; stands = stands_at hints place (omega (arith, within.1, as_many (live before) hints all)); ends = e }
    by None there no_conflict e = (refl, record { clause = clause; hints = hints; is = refl; all_live = all_there (live before) hints there; ends = e })

-- ---- deletions

pub delete_cause : (f : Problem) (before : List Line) (ids : List ℕ) → Caused f before (lines.Delete ids) (delete_refusal (find (λ id. is_none (live before id)) ids))
delete_cause f before ids = by (find (λ id. is_none (live before id)) ids) refl
  where
    by : (o : Option ℕ) → find (λ id. is_none (live before id)) ids ≡ o → Caused f before (lines.Delete ids) (delete_refusal o)
    by None e = tt
    by (Some id) e = record { ids = ids; is = refl; first = first_from before ids id e }
