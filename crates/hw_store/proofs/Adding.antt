-- One more clause in a store that watches literals, and a store without clauses.
use Rattle.std.proofs.Common.{◌≡◌, ℕ, zero, suc, ◌+◌, ◌^◌, ◌<◌, ◌≤◌, List, [], ◌∷◌, ◌++◌, length, get_or, refl, sym, ap, ◌∙◌, subst, arith, All, Contains, inl, inr, length-append}
use Rattle.std.proofs.lemmas.List.{get_or_append_left, get_or_push}
use Rattle.std.proofs.lemmas.List.Elements.{All-push, All-weaker, Contains-append_left, Contains-push}
use Rattle.std.proofs.lemmas.Bool.{cases_eq}
use Rattle.hw_model.specs.Lits.{IsLitOf}
use Rattle.hw_store.specs.declared.store.Stored.{Stored}
use Rattle.hw_store.specs.declared.watching.Watch.{Watch}
use Rattle.hw_store.specs.declared.watching.Watch.TheVariants.{Due}
use Rattle.hw_store.specs.Stores.{StoredAscend, KeepsClauses}
use Rattle.hw_store.specs.Numbering.{bucket_count}
use Rattle.hw_store.specs.Watches.{WatchModel, WatchedModel, count_due, Watches, Listed, KeepsDue, KeepsBuckets, KeepsSeen, IsOneMore, KeepsWatches}
use Rattle.hw_store.proofs.Holding.{keeps_more}
use Rattle.hw_store.proofs.Keeping.{numbers}
use Rattle.hw_store.proofs.Standing.{stand_more}
use Rattle.hw_store.proofs.Seen.{seen_add}

-- a number is at least its clause's place
rank : (held : List Stored) (d : Stored) (i : ℕ) → StoredAscend held → i < length held → i ≤ (get_or held i d).number
rank held d zero a lt = omega arith
rank held d (suc i) a lt =
    let h = rank held d i a (omega (arith, lt)) in
    let up = a i (suc i) d (omega arith) lt in
    omega (arith, h, up)

pub few_held : (held : List Stored) (id : ℕ) → StoredAscend held → All (λ (one : Stored). one.number < id) held → length held ≤ id
few_held held id a h = by (length held) refl
  where
    by : (n : ℕ) → n ≡ length held → length held ≤ id
    by zero e = omega (arith, e)
    by (suc n) e =
        let d : Stored = record { number = 0; clause = [] } in
        let lt : n < length held = omega (arith, e) in
        let up = rank held d n a lt in
        let less = h n d lt in
        omega (arith, e, up, less)

count_push : (ws : List Watch) → count_due (ws ++ Due ∷ []) ≡ count_due ws + 1
count_push [] = refl
count_push (w ∷ ws) = let h = count_push ws in omega (arith, h)

at_push : (P : Watch → Type 0) (ws : List Watch) (i : ℕ) → (i < length ws → P (get_or ws i Due)) → P Due → i < length (ws ++ Due ∷ []) → P (get_or (ws ++ Due ∷ []) i Due)
at_push P ws i old due lt = elim (cases_eq i (length ws)) [
  | inl e ↦ subst P (sym (get_or_push ws Due Due i (sym e))) due
  | inr n ↦ (
      let long = length-append ws (Due ∷ []) in
      let inside : i < length ws = omega (arith, lt, long, n) in
      subst P (sym (get_or_append_left ws (Due ∷ []) Due i inside)) (old inside))
]

pub due_push : (ws : List Watch) (due : List ℕ) (cap cap' : ℕ) → KeepsDue ws due cap → length ws + 1 ≤ cap' → length ws + 1 ≤ 2 ^ 32 → KeepsDue (ws ++ Due ∷ []) (due ++ length ws ∷ []) cap'
due_push ws due cap cap' k room small =
    let long = length-append ws (Due ∷ []) in
    let longer = length-append due (length ws ∷ []) in
    let count = count_push ws in
    record {
      has = λ i lt e. elim (cases_eq i (length ws)) [
        | inl q ↦ subst (λ n. Contains (due ++ length ws ∷ []) n) (sym q) (Contains-push due (length ws))
        | inr n ↦ (
            let inside : i < length ws = omega (arith, lt, long, n) in
            Contains-append_left due (length ws ∷ []) i (k.has i inside (sym (get_or_append_left ws (Due ∷ []) Due i inside) ∙ e)))
      ];
      among = All-push (λ i. i < length (ws ++ Due ∷ [])) due (length ws) (All-weaker (λ i. i < length ws) (λ i. i < length (ws ++ Due ∷ [])) (λ i lt. omega (arith, lt, long)) due k.among) (omega (arith, long));
      few = omega (arith, longer, count, k.few);
      reserved = omega (arith, long, room);
      small = omega (arith, long, small);
    }

pub keeps_add : (s : WatchModel) (one : Stored) (w : WatchedModel) → KeepsWatches s → All (λ (x : Stored). x.number < one.number) s.held → All (IsLitOf s.watched.ships) one.clause → IsOneMore s.watched w → KeepsWatches (record s { held = s.held ++ one ∷ []; watched = w })
keeps_add s one w k above fits m =
    let by : (P : ℕ → ℕ → Type 0) → P s.watched.ships s.watched.slots → P w.ships w.slots = λ P h. numbers P s.watched.ships s.watched.slots w.ships w.slots m.same_ships m.same_slots h in
    let ws : List Watch = s.watched.watches in
    let long : length w.watches ≡ length ws + 1 = ap length m.watches ∙ length-append ws (Due ∷ []) in
    let longer = length-append s.held (one ∷ []) in
    record {
      clauses = by (λ ships slots. KeepsClauses ships (s.held ++ one ∷ [])) (keeps_more s.watched.ships s.held one k.clauses above fits);
      each_clause = omega (arith, long, longer, k.each_clause);
      each_bucket = by (λ ships slots. length s.lists ≡ bucket_count ships slots) k.each_bucket;
      among = λ n p h. omega (arith, long, k.among n p h);
      watched = λ i d lt. subst (λ (l : List Watch). Watches (get_or (s.held ++ one ∷ []) i d).clause (get_or l i Due)) (sym m.watches)
          (at_push (Watches (get_or (s.held ++ one ∷ []) i d).clause) ws i
          (λ inside. subst (λ (x : Stored). Watches x.clause (get_or ws i Due)) (sym (get_or_append_left s.held (one ∷ []) d i (omega (arith, inside, k.each_clause)))) (k.watched i d (omega (arith, inside, k.each_clause)))) tt
          (omega (arith, lt, length-append ws (Due ∷ []), longer, k.each_clause)));
      listed = λ i lt. by (λ ships slots. Listed ships slots s.lists i (get_or w.watches i Due))
          (subst (λ (l : List Watch). Listed s.watched.ships s.watched.slots s.lists i (get_or l i Due)) (sym m.watches)
          (at_push (Listed s.watched.ships s.watched.slots s.lists i) ws i (λ inside. k.listed i inside) tt (omega (arith, lt, long, length-append ws (Due ∷ [])))));
      known = subst (KeepsBuckets s.lists) (sym m.stands) (stand_more s.lists s.watched.stands k.known);
      seen = by (λ ships slots. KeepsSeen ships s.seen w.watches) (subst (KeepsSeen s.watched.ships s.seen) (sym m.watches) (seen_add s.watched.ships s.seen ws k.seen));
    }
