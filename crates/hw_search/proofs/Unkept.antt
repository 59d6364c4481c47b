-- The numbers that a turn drops are those that its log's lines and the search after it leave over.
use Rattle.std.proofs.Common.{◌≡◌, ◌⊎◌, ◌&&◌, not, cond, is_some, filter, ℕ, zero, suc, ◌+◌, ◌<◌, ◌≤◌, Bool, true, false, List, [], ◌∷◌, ◌++◌, Option, IsSome, length, get_or, map, take, drop, filter_map, refl, sym, ap, ◌∙◌, subst, arith, inl, inr, append_assoc}
use Rattle.std.specs.Prelude.{◌==◌, Contains, AllPairs}
use Rattle.std.specs.List.{list_any, range_with_len}
use Rattle.std.specs.List.Sorted.{IsStrictlyIncreasing}
use Rattle.std.proofs.lemmas.List.{take-append-drop}
use Rattle.std.proofs.lemmas.List.Elements.{Contains-append_left, Contains-append_right, Contains-append_cases, filter_map-append}
use Rattle.std.proofs.lemmas.List.Kept.{AllPairs-from_increasing}
use Rattle.hw_model.specs.declared.lit.Lit.{Lit}
use Rattle.hw_cert_lines.specs.declared.line.Line.{Line}
use Rattle.hw_cert_lines.specs.declared.line.Line.TheVariants as lines
use Rattle.hw_cert_lines.specs.Lines.{source_line, clause_count, live}
use Rattle.hw_trail_laws.specs.declared.event.Why.{Why}
use Rattle.hw_trail_laws.specs.declared.event.Why.TheVariants as whys
use Rattle.hw_store.specs.declared.store.Stored.{Stored}
use Rattle.hw_search_laws.specs.Searches.{SearchModel, kept_numbers}
use Rattle.hw_search_laws.specs.Turns.{Cited, cite_conflict, unkept}
use Rattle.hw_search_laws.specs.Laws.{lemma_lines}
use Rattle.hw_search_laws.proofs.Numbers.{contains_here, contains_there, contains_cases, contains_none, numbers_push}
use Rattle.hw_search_laws.proofs.Lines.{IsClauseLine, source_is, lemma_is, live_stays, live_back, new_live}
use Rattle.hw_search_laws.proofs.Priced.{priced_is}
use Rattle.hw_search_laws.proofs.Backs.{contains_any, from_filter, unkept_has, unkept_not, any_contains}
use Rattle.hw_search_laws.proofs.Citing.{Citing, Prepared}
use Rattle.hw_search_ledger.specs.Dropped.{number_list, dropped}
use Rattle.hw_search_ledger.specs.Naming.{own_number}
use Rattle.hw_search_ledger.proofs.Named.{same_conflict}

-- ---- two rising lists of the same members

abbrev Above : ℕ → List ℕ → Type 0
Above low [] = Unit {0}
Above low (x ∷ xs) = (low ≤ x) × Above (x + 1) xs

above_lower : (low high : ℕ) (xs : List ℕ) → low ≤ high → Above high xs → Above low xs
above_lower low high [] le h = tt
above_lower low high (x ∷ xs) le h = (omega (arith, le, h.0), h.1)

above_by : (b : Bool) (a : ℕ) (xs : List ℕ) → Above (a + 1) xs → Above a (cond b (a ∷ xs) xs)
above_by true a xs h = (omega arith, h)
above_by false a xs h = above_lower a (a + 1) xs (omega arith) h

above_filter : (p : ℕ → Bool) (a n : ℕ) → Above a (filter p (range_with_len a n))
above_filter p a zero = tt
above_filter p a (suc n) = above_by (p a) a (filter p (range_with_len (a + 1) n)) (above_filter p (a + 1) n)

above_pairs : (low : ℕ) (xs : List ℕ) → AllPairs (λ x y. x < y) xs → low ≤ get_or xs 0 low → Above low xs
above_pairs low [] h f = tt
above_pairs low (x ∷ xs) h f = (f, above_pairs (x + 1) xs (λ i j d lt in'. h (suc i) (suc j) d (omega (arith, lt)) (omega (arith, in'))) (first xs (λ j d in'. h 0 (suc j) d (omega arith) (omega (arith, in')))))
  where
    first : (ys : List ℕ) → ((j d : ℕ) → j < length ys → x < get_or ys j d) → x + 1 ≤ get_or ys 0 (x + 1)
    first [] k = omega arith
    first (y ∷ ys) k = omega (arith, k 0 0 (omega arith))

least : (low : ℕ) (xs : List ℕ) (n : ℕ) → Above low xs → Contains xs n → low ≤ n
least low [] n h c = absurd (contains_none n c)
least low (x ∷ xs) n h c = elim (contains_cases x xs n c) [
  | inl e ↦ omega (arith, e, h.0)
  | inr more ↦ omega (arith, least (x + 1) xs n h.1 more, h.0)
]

same_members : (low : ℕ) (xs ys : List ℕ) → Above low xs → Above low ys → ((n : ℕ) → Contains xs n → Contains ys n) → ((n : ℕ) → Contains ys n → Contains xs n) → xs ≡ ys
same_members low [] [] a b to back = refl
same_members low [] (y ∷ ys) a b to back = absurd (contains_none y (back y (contains_here y ys y refl)))
same_members low (x ∷ xs) [] a b to back = absurd (contains_none x (to x (contains_here x xs x refl)))
same_members low (x ∷ xs) (y ∷ ys) a b to back =
    let down : y ≤ x = elim (contains_cases y ys x (to x (contains_here x xs x refl))) [ inl e ↦ omega (arith, e) | inr more ↦ omega (arith, least (y + 1) ys x b.1 more) ] in
    let up : x ≤ y = elim (contains_cases x xs y (back y (contains_here y ys y refl))) [ inl e ↦ omega (arith, e) | inr more ↦ omega (arith, least (x + 1) xs y a.1 more) ] in
    let e : x ≡ y = omega (arith, down, up) in
    ap (λ z. z ∷ xs) e ∙ ap (λ zs. y ∷ zs) (same_members (x + 1) xs ys a.1 (subst (λ z. Above (z + 1) ys) (sym e) b.1)
    (λ n c. elim (contains_cases y ys n (to n (contains_there x xs n c))) [ inl f ↦ absurd (omega (arith, f, e, least (x + 1) xs n a.1 c)) | inr more ↦ more ])
    (λ n c. elim (contains_cases x xs n (back n (contains_there y ys n c))) [ inl f ↦ absurd (omega (arith, f, e, least (y + 1) ys n b.1 c)) | inr more ↦ more ]))

-- ---- what is left over

both_left : (a b : Bool) → (a && b) ≡ true → a ≡ true
both_left true b e = refl
both_left false b e = cc

pub unkept_is : (before : List Line) (s : SearchModel) (ids : List ℕ) → IsStrictlyIncreasing ids → ((n : ℕ) → Contains ids n → IsSome (live before n)) → ((n : ℕ) → Contains ids n → Contains (kept_numbers s) n → ⊥)
    → ((n : ℕ) → IsSome (live before n) → (Contains (kept_numbers s) n → ⊥) → Contains ids n) → ids ≡ unkept before s
unkept_is before s ids rises is_live not_kept all =
    same_members 0 ids (unkept before s) (above_pairs 0 ids (AllPairs-from_increasing ids rises) (omega arith)) (above_lower 0 1 (unkept before s) (omega arith) (above_filter (λ id. is_some (live before id) && not (list_any (λ kept. kept == id) (kept_numbers s))) 1 (clause_count before)))
    (λ n c. any_contains (unkept before s) n (there n (is_live n c) (not_kept n c) (list_any (λ x. x == n) (unkept before s)) refl))
    (λ n c.
    let e = contains_any (unkept before s) n c in
    let r = from_filter (λ id. is_some (live before id) && not (list_any (λ kept. kept == id) (kept_numbers s))) (range_with_len 1 (clause_count before)) n e in
    all n (both_left (is_some (live before n)) (not (list_any (λ kept. kept == n) (kept_numbers s))) r.0) (λ k. let f : true ≡ false = sym e ∙ unkept_not before s n k in cc))
  where
    there : (n : ℕ) → IsSome (live before n) → (Contains (kept_numbers s) n → ⊥) → (b : Bool) → list_any (λ x. x == n) (unkept before s) ≡ b → list_any (λ x. x == n) (unkept before s) ≡ true
    there n l k true e = e
    there n l k false e = absurd (k (unkept_has before s n l e))

-- ---- what is dropped

same_stored : (c : Cited) (why : Why) → (cite_conflict c why).search.stored ≡ c.search.stored
same_stored c (whys.Lemma number clause) = refl
same_stored c (whys.Source source clause) = refl
same_stored c (whys.Priced clause) = refl

new_conflict : (s : SearchModel) (before : List Line) (places : List ℕ) (c : Cited) (line : Line) (clause : List Lit) → IsClauseLine line clause → Citing s before places c → (n : ℕ) → IsSome (live (before ++ (c.lines ++ line ∷ [])) n) → Contains (kept_numbers c.search) n ⊎ Contains ((c.search.clause_lines + 1) ∷ []) n
new_conflict s before places c line clause is h n l =
    elim (live_back c.search.problem (before ++ c.lines) line clause is n (subst (λ xs. IsSome (live xs n)) (sym (append_assoc before c.lines (line ∷ []))) l)) [
      | inl old ↦ inl (h.kept n old)
      | inr new ↦ inr (contains_here (c.search.clause_lines + 1) [] n (let e : c.search.clause_lines + 1 ≡ n = omega (arith, new, h.fit.count) in e))
    ]

live_conflict : (s : SearchModel) (before : List Line) (places : List ℕ) (c : Cited) (why : Why) → Citing s before places c → (n : ℕ) → IsSome (live (before ++ (cite_conflict c why).lines) n) → Contains (kept_numbers c.search) n ⊎ Contains (number_list (own_number why (c.search.clause_lines + 1))) n
live_conflict s before places c (whys.Lemma number clause) h n l = inl (h.kept n l)
live_conflict s before places c (whys.Source source clause) h n l = new_conflict s before places c (source_line c.search.problem source clause) clause (source_is c.search.problem source clause) h n l
live_conflict s before places c (whys.Priced clause) h n l = new_conflict s before places c (lines.Priced clause) clause (priced_is clause) h n l

new_own : (s : SearchModel) (before : List Line) (places : List ℕ) (c : Cited) (line : Line) (clause : List Lit) → IsClauseLine line clause → Citing s before places c → (n : ℕ) → Contains ((c.search.clause_lines + 1) ∷ []) n → IsSome (live (before ++ (c.lines ++ line ∷ [])) n)
new_own s before places c line clause is h n k =
    elim (contains_cases (c.search.clause_lines + 1) [] n k) [
      | inl e ↦
          let new = new_live c.search.problem (before ++ c.lines) line clause h.fit.deletes_earlier is in
          let at : clause_count (before ++ c.lines) + 1 ≡ n = omega (arith, e, h.fit.count) in
          subst (λ xs. IsSome (live xs n)) (append_assoc before c.lines (line ∷ [])) (subst (λ k. IsSome (live ((before ++ c.lines) ++ line ∷ []) k)) at (subst IsSome (sym new) refl))
      | inr more ↦ absurd (contains_none n more)
    ]

own_live : (s : SearchModel) (before : List Line) (places : List ℕ) (c : Cited) (why : Why) → Citing s before places c → (n : ℕ) → Contains (number_list (own_number why (c.search.clause_lines + 1))) n → IsSome (live (before ++ (cite_conflict c why).lines) n)
own_live s before places c (whys.Lemma number clause) h n k = absurd (contains_none n k)
own_live s before places c (whys.Source source clause) h n k = new_own s before places c (source_line c.search.problem source clause) clause (source_is c.search.problem source clause) h n k
own_live s before places c (whys.Priced clause) h n k = new_own s before places c (lines.Priced clause) clause (priced_is clause) h n k

split : (ws : List (Option ℕ)) (keep : ℕ) → filter_map (λ (w : Option ℕ). w) ws ≡ filter_map (λ (w : Option ℕ). w) (take keep ws) ++ filter_map (λ (w : Option ℕ). w) (drop keep ws)
split ws keep = ap (filter_map (λ (w : Option ℕ). w)) (sym (take-append-drop keep ws)) ∙ filter_map-append (λ (w : Option ℕ). w) (take keep ws) (drop keep ws)

-- the numbers of dropped events and of the conflict, but for those that are kept
pub record DropsRest (u : SearchModel) (ws : List (Option ℕ)) (keep : ℕ) (own : Option ℕ) (ids : List ℕ) : Type 0 where
  pub ascends : IsStrictlyIncreasing ids
  pub holds : (n : ℕ) → Contains ids n → Contains (dropped ws keep own) n
  pub apart : (n : ℕ) → Contains ids n → Contains (kept_numbers u) n → ⊥
  pub all : (n : ℕ) → Contains (dropped ws keep own) n → (Contains (kept_numbers u) n → ⊥) → Contains ids n

pub drops_unkept : (s u : SearchModel) (before : List Line) (places : List ℕ) (c : Cited) (why : Why) (clause lemma : List Lit) (keep : ℕ) (ids : List ℕ) → Citing s before places c → Prepared s before places clause (cite_conflict c why)
    → u.stored ≡ (cite_conflict c why).search.stored ++ record { number = (cite_conflict c why).search.clause_lines + 1; clause = lemma } ∷ [] → u.written ≡ take keep (cite_conflict c why).search.written
    → DropsRest u (cite_conflict c why).search.written keep (own_number why (c.search.clause_lines + 1)) ids
    → ids ≡ unkept (before ++ lemma_lines (cite_conflict c why) lemma) u
drops_unkept s u before places c why clause lemma keep ids h p st wr d =
    let e = cite_conflict c why in
    let ws = e.search.written in
    let own = own_number why (c.search.clause_lines + 1) in
    let line = lines.Lemma lemma e.hints in
    let assoc : (before ++ e.lines) ++ line ∷ [] ≡ before ++ lemma_lines e lemma = append_assoc before e.lines (line ∷ []) in
    let nums : List ℕ = map (λ (one : Stored). one.number) e.search.stored in
    let u_nums : map (λ (one : Stored). one.number) u.stored ≡ nums ++ (e.search.clause_lines + 1) ∷ [] = ap (map (λ (one : Stored). one.number)) st ∙ numbers_push e.search.stored (record { number = e.search.clause_lines + 1; clause = lemma }) in
    let from_stored = λ (n : ℕ) (k : Contains (nums ++ (e.search.clause_lines + 1) ∷ []) n). Contains-append_left (map (λ (one : Stored). one.number) u.stored) (filter_map (λ (w : Option ℕ). w) u.written) n (subst (λ xs. Contains xs n) (sym u_nums) k) in
    let from_written = λ (n : ℕ) (k : Contains (filter_map (λ (w : Option ℕ). w) (take keep ws)) n). Contains-append_right (map (λ (one : Stored). one.number) u.stored) (filter_map (λ (w : Option ℕ). w) u.written) n (subst (λ xs. Contains (filter_map (λ (w : Option ℕ). w) xs) n) (sym wr) k) in
    unkept_is (before ++ lemma_lines e lemma) u ids d.ascends
    (λ n k. subst (λ xs. IsSome (live xs n)) assoc (live_stays e.search.problem (before ++ e.lines) line n refl (elim (Contains-append_cases (filter_map (λ (w : Option ℕ). w) (drop keep ws)) (number_list own) n (d.holds n k)) [
      | inl a ↦ p.fit.kept_live n (Contains-append_right nums (filter_map (λ (w : Option ℕ). w) ws) n (subst (λ xs. Contains xs n) (sym (split ws keep)) (Contains-append_right (filter_map (λ (w : Option ℕ). w) (take keep ws)) (filter_map (λ (w : Option ℕ). w) (drop keep ws)) n a)))
      | inr b ↦ own_live s before places c why h n b
    ])))
    d.apart
    (λ n l not_kept. d.all n (elim (live_back e.search.problem (before ++ e.lines) line lemma (lemma_is lemma e.hints) n (subst (λ xs. IsSome (live xs n)) (sym assoc) l)) [
      | inl old ↦ elim (live_conflict s before places c why h n old) [
        | inl k ↦ elim (Contains-append_cases (map (λ (one : Stored). one.number) c.search.stored) (filter_map (λ (w : Option ℕ). w) c.search.written) n k) [
          | inl a ↦ absurd (not_kept (from_stored n (Contains-append_left nums ((e.search.clause_lines + 1) ∷ []) n (subst (λ xs. Contains (map (λ (one : Stored). one.number) xs) n) (sym (same_stored c why)) a))))
          | inr b ↦ elim (Contains-append_cases (filter_map (λ (w : Option ℕ). w) (take keep ws)) (filter_map (λ (w : Option ℕ). w) (drop keep ws)) n (subst (λ xs. Contains xs n) (split ws keep) (subst (λ xs. Contains (filter_map (λ (w : Option ℕ). w) xs) n) (sym (same_conflict c why)) b))) [
            | inl front ↦ absurd (not_kept (from_written n front))
            | inr rest ↦ Contains-append_left (filter_map (λ (w : Option ℕ). w) (drop keep ws)) (number_list own) n rest
          ]
        ]
        | inr k ↦ Contains-append_right (filter_map (λ (w : Option ℕ). w) (drop keep ws)) (number_list own) n k
      ]
      | inr new ↦ absurd (not_kept (from_stored n (Contains-append_right nums ((e.search.clause_lines + 1) ∷ []) n (contains_here (e.search.clause_lines + 1) [] n (let f : e.search.clause_lines + 1 ≡ n = omega (arith, new, p.fit.count) in f)))))
    ]) not_kept)
