-- All pages at once, line by line.
use Rattle.std.proofs.Common.{◌≡◌, ℕ, zero, suc, ◌+◌, ◌^◌, ◌<◌, true, false, List, [], ◌∷◌, ◌++◌, Option, Some, None, length, get_or, slice_get, sum_by, All, IfSome, IsSomeAnd, refl, sym, ap, ◌∙◌, subst, inl, inr, arith, length-append, append-nil, append_assoc}
use Rattle.std.specs.Prelude.{AllPairs, Contains, slice_set}
use Rattle.std.specs.List.{cons_option}
use Rattle.std.specs.List.Sorted.{IsStrictlyIncreasing}
use Rattle.std.proofs.lemmas.Bool.{cases_eq, cases_lt}
use Rattle.std.proofs.lemmas.List.{length-set, get_or-set_same, get_or-set_other}
use Rattle.std.proofs.lemmas.List.Elements.{All-nil, All-push}
use Rattle.std.proofs.lemmas.List.Sums.{sum_by-set, sum_by-le}
use Rattle.hw_lemmas.proofs.Lists.{front_at}
use Rattle.hw_model.specs.declared.lit.Lit.{Lit}
use Rattle.hw_model.specs.Problem.{Problem}
use Rattle.hw_cert_lines.specs.declared.line.Line.{Line}
use Rattle.hw_cert_lines.specs.Tolled.{is_plain}
use Rattle.hw_cert_lines.specs.Lines.{clause_count, is_closed, best_of}
use Rattle.hw_cert_lines.specs.Valid.{LineFits, ValidAfter, Valid}
use Rattle.hw_cert_lines.specs.Lemmas.{lemma_of, lemmas_of, IsNew, IsLean, LeanAfter, LeanFrom}
use Rattle.hw_cert_lines.proofs.Live.{valid_push, lemmas_push}
use Rattle.hw_cert_crews.specs.Pages.{Page, blank_page, handed, with_next_line, page_after, Tied, NumbersApart}
use Rattle.hw_cert_crews.specs.Laws.{OtherKept}
use Rattle.hw_cert_crews.specs.Crews.{IsFreshLemma, NewAmong, Authored, Shared}
use Rattle.hw_cert_crews.proofs.Numbers.{at_last}
use Rattle.hw_cert_crews.proofs.Tying.{blank_tied, line_relayed, other_kept}
use Rattle.hw_cert_crews.proofs.Counting.{counted}
use Rattle.hw_cert_crews.proofs.Holes.{twice}

-- ---- places

pub at_place : {A : Type 0} (xs : List A) (i : ℕ) (x d : A) → slice_get xs i ≡ Some x → (i < length xs) × (get_or xs i d ≡ x)
at_place [] i x d e = absurd cc
at_place (y ∷ xs) zero x d e = (omega arith, let same : y ≡ x = cc in same)
at_place (y ∷ xs) (suc i) x d e = let r = at_place xs i x d e in (omega (arith, r.0), r.1)

pub get_at : {A : Type 0} (xs : List A) (i : ℕ) (d : A) → i < length xs → slice_get xs i ≡ Some (get_or xs i d)
get_at [] i d lt = absurd (omega (arith, lt))
get_at (x ∷ xs) zero d lt = refl
get_at (x ∷ xs) (suc i) d lt = get_at xs i d (omega (arith, lt))

apart_back : (page other : Page) → NumbersApart page other → NumbersApart other page
apart_back page other h = λ number his mine. h number mine his

-- ---- the pages

all_set : (P : Page → Type 0) (Q : Page → Type 0) (pages : List Page) (place : ℕ) (page : Page) → place < length pages → Q page → ((k : ℕ) (d : Page) → k < length pages → (k ≡ place → ⊥) → Q (get_or pages k d)) → All Q (slice_set pages place page)
all_set P Q pages place page lt here others = λ k d in'.
    let inside : k < length pages = omega (arith, in', length-set pages place page) in
    elim (cases_eq k place) [
      | inl e ↦ subst (λ n. Q (get_or (slice_set pages place page) n d)) (sym e) (subst Q (sym (get_or-set_same pages place page d lt)) here)
      | inr ne ↦ subst Q (sym (get_or-set_other pages place k page d ne)) (others k d inside ne)
    ]

pairs_set : (pages : List Page) (place : ℕ) (page : Page) → place < length pages → AllPairs NumbersApart pages → ((k : ℕ) (d : Page) → k < length pages → (k ≡ place → ⊥) → NumbersApart page (get_or pages k d)) → AllPairs NumbersApart (slice_set pages place page)
pairs_set pages place page lt pairs others = λ i j d less in'.
    let inside : j < length pages = omega (arith, in', length-set pages place page) in
    let made = slice_set pages place page in
    elim (cases_eq i place) [
      | inl e ↦
          let ne : j ≡ place → ⊥ = λ h. omega (arith, h, e, less) in
          subst (λ n. NumbersApart (get_or made n d) (get_or made j d)) (sym e) (subst (λ p. NumbersApart p (get_or made j d)) (sym (get_or-set_same pages place page d lt)) (subst (NumbersApart page) (sym (get_or-set_other pages place j page d ne)) (others j d inside ne)))
      | inr ni ↦ subst (λ p. NumbersApart p (get_or made j d)) (sym (get_or-set_other pages place i page d ni)) (elim (cases_eq j place) [
        | inl e ↦ subst (λ n. NumbersApart (get_or pages i d) (get_or made n d)) (sym e) (subst (NumbersApart (get_or pages i d)) (sym (get_or-set_same pages place page d lt)) (apart_back page (get_or pages i d) (others i d (omega (arith, less, inside)) ni)))
        | inr nj ↦ subst (NumbersApart (get_or pages i d)) (sym (get_or-set_other pages place j page d nj)) (pairs i j d less inside)
      ])
    ]

-- two places of pages that are apart, in any order
apart_at : (pages : List Page) (i j : ℕ) (d : Page) → AllPairs NumbersApart pages → i < length pages → j < length pages → (j ≡ i → ⊥) → NumbersApart (get_or pages i d) (get_or pages j d)
apart_at pages i j d pairs li lj ne = elim (cases_lt i j) [
  | inl lt ↦ pairs i j d lt lj
  | inr le ↦ apart_back (get_or pages j d) (get_or pages i d) (pairs j i d (let strict : j < i = omega (arith, le, ne) in strict) li)
]

-- ---- who wrote which lemma

contains_more : {A : Type 0} (xs ys : List A) (x : A) → Contains xs x → Contains (xs ++ ys) x
contains_more xs ys x h = (h.0, omega (arith, h.1, length-append xs ys), front_at xs ys h.0 x h.1 ∙ h.2)

contains_last : {A : Type 0} (xs : List A) (x : A) → Contains (xs ++ x ∷ []) x
contains_last xs x = (length xs, omega (arith, length-append xs (x ∷ [])), at_last xs x (length xs) x refl)

-- the lemmas of each page are still there after one more line of one
still_own : (pages : List Page) (place : ℕ) (page after : Page) (more : List (List Lit)) (k : ℕ) (x : List Lit) → place < length pages → get_or pages place blank_page ≡ page → lemmas_of after.lines ≡ lemmas_of page.lines ++ more → Contains (lemmas_of (get_or pages k blank_page).lines) x → Contains (lemmas_of (get_or (slice_set pages place after) k blank_page).lines) x
still_own pages place page after more k x lt is e h = elim (cases_eq k place) [
  | inl same ↦ subst (λ n. Contains (lemmas_of (get_or (slice_set pages place after) n blank_page).lines) x) (sym same) (subst (λ (p : Page). Contains (lemmas_of p.lines) x) (sym (get_or-set_same pages place after blank_page lt)) (subst (λ xs. Contains xs x) (sym e) (contains_more (lemmas_of page.lines) more x (subst (λ (p : Page). Contains (lemmas_of p.lines) x) (ap (λ n. get_or pages n blank_page) same ∙ is) h))))
  | inr ne ↦ subst (λ (p : Page). Contains (lemmas_of p.lines) x) (sym (get_or-set_other pages place k after blank_page ne)) h
]

authored_same : (f : Problem) (pages : List Page) (place : ℕ) (page after : Page) (lemmas : List (List Lit)) → place < length pages → get_or pages place blank_page ≡ page → lemmas_of after.lines ≡ lemmas_of page.lines ++ [] → Authored f pages lemmas → Authored f (slice_set pages place after) (lemmas ++ [])
authored_same f pages place page after lemmas lt is e a = subst (Authored f (slice_set pages place after)) (sym (append-nil lemmas)) (record {
  authors = a.authors;
  each = a.each;
  among = λ k d in'. omega (arith, a.among k d in', length-set pages place after);
  own = λ k in'. still_own pages place page after [] (get_or a.authors k 0) (get_or lemmas k []) lt is e (a.own k in');
  fresh = a.fresh;
})

authored_more : (f : Problem) (pages : List Page) (place : ℕ) (page after : Page) (lemmas : List (List Lit)) (lemma : List Lit) → place < length pages → get_or pages place blank_page ≡ page → lemmas_of after.lines ≡ lemmas_of page.lines ++ lemma ∷ [] → AllPairs (λ earlier later. IsFreshLemma f earlier later) (lemmas_of page.lines ++ lemma ∷ []) → Authored f pages lemmas → Authored f (slice_set pages place after) (lemmas ++ lemma ∷ [])
authored_more f pages place page after lemmas lemma lt is e new a =
    let made = slice_set pages place after in
    let authors = a.authors ++ place ∷ [] in
    record {
      authors = authors;
      each = length-append a.authors (place ∷ []) ∙ ap (λ n. n + 1) a.each ∙ sym (length-append lemmas (lemma ∷ []));
      among = All-push (λ author. author < length made) a.authors place (λ k d in'. omega (arith, a.among k d in', length-set pages place after)) (omega (arith, lt, length-set pages place after));
      own = λ k in'. elim (cases_lt k (length a.authors)) [
        | inl old ↦ subst (λ n. Contains (lemmas_of (get_or made n blank_page).lines) (get_or (lemmas ++ lemma ∷ []) k [])) (sym (front_at a.authors (place ∷ []) k 0 old)) (subst (Contains (lemmas_of (get_or made (get_or a.authors k 0) blank_page).lines)) (sym (front_at lemmas (lemma ∷ []) k [] (omega (arith, old, a.each)))) (still_own pages place page after (lemma ∷ []) (get_or a.authors k 0) (get_or lemmas k []) lt is e (a.own k old)))
        | inr past ↦
            let last : k ≡ length a.authors = omega (arith, past, in', length-append a.authors (place ∷ [])) in
            subst (λ n. Contains (lemmas_of (get_or made n blank_page).lines) (get_or (lemmas ++ lemma ∷ []) k [])) (sym (at_last a.authors place k 0 last)) (subst (Contains (lemmas_of (get_or made place blank_page).lines)) (sym (at_last lemmas lemma k [] (omega (arith, last, a.each)))) (subst (λ (p : Page). Contains (lemmas_of p.lines) lemma) (sym (get_or-set_same pages place after blank_page lt)) (subst (λ xs. Contains xs lemma) (sym e) (contains_last (lemmas_of page.lines) lemma))))
      ];
      fresh = λ i j less in' same. elim (cases_lt j (length a.authors)) [
        | inl old ↦
            let oi : i < length a.authors = omega (arith, less, old) in
            subst (λ x. IsFreshLemma f x (get_or (lemmas ++ lemma ∷ []) j [])) (sym (front_at lemmas (lemma ∷ []) i [] (omega (arith, oi, a.each)))) (subst (IsFreshLemma f (get_or lemmas i [])) (sym (front_at lemmas (lemma ∷ []) j [] (omega (arith, old, a.each)))) (a.fresh i j less old (sym (front_at a.authors (place ∷ []) i 0 oi) ∙ same ∙ front_at a.authors (place ∷ []) j 0 old)))
        | inr past ↦
            let last : j ≡ length a.authors = omega (arith, past, in', length-append a.authors (place ∷ [])) in
            let oi : i < length a.authors = omega (arith, less, last) in
            let mine : get_or a.authors i 0 ≡ place = sym (front_at a.authors (place ∷ []) i 0 oi) ∙ same ∙ at_last a.authors place j 0 last in
            let x = get_or lemmas i [] in
            let has : Contains (lemmas_of page.lines) x = subst (λ (p : Page). Contains (lemmas_of p.lines) x) (ap (λ n. get_or pages n blank_page) mine ∙ is) (a.own i oi) in
            let apart : IsFreshLemma f (get_or (lemmas_of page.lines ++ lemma ∷ []) has.0 x) (get_or (lemmas_of page.lines ++ lemma ∷ []) (length (lemmas_of page.lines)) x) = new has.0 (length (lemmas_of page.lines)) x has.1 (omega (arith, length-append (lemmas_of page.lines) (lemma ∷ []))) in
            let pair : IsFreshLemma f x lemma = subst (λ y. IsFreshLemma f y lemma) (front_at (lemmas_of page.lines) (lemma ∷ []) has.0 x has.1 ∙ has.2) (subst (IsFreshLemma f (get_or (lemmas_of page.lines ++ lemma ∷ []) has.0 x)) (at_last (lemmas_of page.lines) lemma (length (lemmas_of page.lines)) x refl) apart) in
            subst (λ y. IsFreshLemma f y (get_or (lemmas ++ lemma ∷ []) j [])) (sym (front_at lemmas (lemma ∷ []) i [] (omega (arith, oi, a.each)))) (subst (IsFreshLemma f x) (sym (at_last lemmas lemma j [] (omega (arith, last, a.each)))) pair)
      ];
    }

authored_by : (f : Problem) (pages : List Page) (place : ℕ) (page after : Page) (lemmas : List (List Lit)) (o : Option (List Lit)) → place < length pages → get_or pages place blank_page ≡ page → lemmas_of after.lines ≡ lemmas_of page.lines ++ cons_option o [] → AllPairs (λ earlier later. IsFreshLemma f earlier later) (lemmas_of page.lines ++ cons_option o []) → Authored f pages lemmas → Authored f (slice_set pages place after) (lemmas ++ cons_option o [])
authored_by f pages place page after lemmas None lt is e new a = authored_same f pages place page after lemmas lt is e a
authored_by f pages place page after lemmas (Some lemma) lt is e new a = authored_more f pages place page after lemmas lemma lt is e new a

-- ---- before any line

none_twice : (f : Problem) (pages : List Page) → Authored f pages []
none_twice f pages = record { authors = []; each = refl; among = All-nil (λ author. author < length pages); own = λ k lt. absurd (omega (arith, lt)); fresh = λ i j less lt. absurd (omega (arith, lt)) }

lean_push : (f : Problem) (xs before : List Line) (line : Line) → LeanFrom f before xs → LeanAfter f (before ++ xs) line → LeanFrom f before (xs ++ line ∷ [])
lean_push f [] before line lean after = (subst (λ all. LeanAfter f all line) (append-nil before) after, tt)
lean_push f (x ∷ xs) before line lean after = (lean.0, lean_push f xs (before ++ x ∷ []) line lean.1 (subst (λ all. LeanAfter f all line) (sym (append_assoc before (x ∷ []) xs)) after))

-- ---- one more line

pub crew_relays : (f : Problem) (pages : List Page) (shared : List Line) (place : ℕ) (page : Page) (line : Line) → slice_get pages place ≡ Some page → Shared f pages shared → is_closed shared ≡ false → clause_count shared + 1 < 2 ^ 32 → is_plain line ≡ true → LineFits f line → ValidAfter f page.lines line → LeanAfter f page.lines line → IsNew f (page.lines ++ line ∷ [])
    → Shared f (slice_set pages place (page_after page (clause_count shared) line)) (with_next_line shared (handed f (best_of f shared) page.numbers line))
crew_relays f pages shared place page line at s going few plain fits after lean new =
    let here = at_place pages place page blank_page at in
    let next = handed f (best_of f shared) page.numbers line in
    let made = page_after page (clause_count shared) line in
    let tied : Tied f page shared = subst (λ p. Tied f p shared) here.1 (s.tied place blank_page here.0) in
    let r = line_relayed f page shared line tied s.valid going few plain fits after in
    let c = counted f page shared line in
    let sums = sum_by-set (λ (p : Page). clause_count p.lines) pages place made blank_page here.0 in
    let lemma_sums = sum_by-set (λ (p : Page). length (lemmas_of p.lines)) pages place made blank_page here.0 in
    let same_count : clause_count (get_or pages place blank_page).lines ≡ clause_count page.lines = ap (λ (p : Page). clause_count p.lines) here.1 in
    let same_lemmas : length (lemmas_of (get_or pages place blank_page).lines) ≡ length (lemmas_of page.lines) = ap (λ (p : Page). length (lemmas_of p.lines)) here.1 in
    let own = lemmas_push page.lines line in
    let other : (k : ℕ) (d : Page) → k < length pages → (k ≡ place → ⊥) → OtherKept f page (get_or pages k d) shared line next = λ k d lt ne.
    other_kept f page (get_or pages k d) shared line tied (s.tied k d lt) (subst (λ p. NumbersApart p (get_or pages k d)) (any_page pages place page d at) (apart_at pages place k d s.apart here.0 lt ne)) s.valid plain after in
    record {
      plain = next_plain next s.plain r.plain;
      fit = next_fits next s.fit r.fits;
      valid = next_valid next s.valid r.valid;
      lean = next_lean next s.lean (r.lean lean);
      tied = all_set (λ p. Tied f p shared) (λ p. Tied f p (with_next_line shared next)) pages place made here.0 r.tied (λ k d lt ne. (other k d lt ne).tied);
      apart = pairs_set pages place made here.0 s.apart (λ k d lt ne. (other k d lt ne).apart);
      count = omega (arith, s.count, c.count, sums, same_count);
      lemmas = omega (arith, s.lemmas, ap length c.lemmas, length-append (lemmas_of shared) (cons_option (lemma_of line) []), ap length own, length-append (lemmas_of page.lines) (cons_option (lemma_of line) []), lemma_sums, same_lemmas);
      authored = subst (Authored f (slice_set pages place made)) (sym c.lemmas) (authored_by f pages place page made (lemmas_of shared) (lemma_of line) here.0 here.1 own (subst (AllPairs (λ earlier later. IsFreshLemma f earlier later)) own new) s.authored);
    }
  where
    any_page : (pages : List Page) (place : ℕ) (page d : Page) → slice_get pages place ≡ Some page → get_or pages place d ≡ page
    any_page pages place page d e = (at_place pages place page d e).1

    next_plain : (next : Option Line) → All (λ line. is_plain line ≡ true) shared → IfSome next (λ line. is_plain line ≡ true) → All (λ line. is_plain line ≡ true) (with_next_line shared next)
    next_plain None all h = all
    next_plain (Some line) all h = All-push (λ line. is_plain line ≡ true) shared line all h

    next_fits : (next : Option Line) → All (LineFits f) shared → IfSome next (LineFits f) → All (LineFits f) (with_next_line shared next)
    next_fits None all h = all
    next_fits (Some line) all h = All-push (LineFits f) shared line all h

    next_valid : (next : Option Line) → Valid f shared → IfSome next (ValidAfter f shared) → Valid f (with_next_line shared next)
    next_valid None valid h = valid
    next_valid (Some line) valid h = valid_push f shared [] line valid h

    next_lean : (next : Option Line) → IsLean f shared → IfSome next (LeanAfter f shared) → IsLean f (with_next_line shared next)
    next_lean None lean h = lean
    next_lean (Some line) lean h = lean_push f shared [] line lean h

-- ---- new lemmas

pub crew_new : (f : Problem) (pages : List Page) (shared : List Line) → Shared f pages shared → NewAmong f (length pages) shared
crew_new f pages shared s places up inside more =
    let a = s.authored in
    let by_place = authors_of a.authors places in
    let long : length by_place ≡ length places = authors_long a.authors places in
    let t = twice (length pages) by_place (λ k d lt. subst (λ x. x < length pages) (sym (author_at a.authors places k d (omega (arith, lt, long)))) (a.among (get_or places k 0) 0 (omega (arith, a.each, inside k 0 (omega (arith, lt, long)))))) (omega (arith, long, more)) in
    let i = get_or places t.earlier 0 in
    let j = get_or places t.later 0 in
    let lt : t.later < length places = omega (arith, t.inside, long) in
    let less : i < j = rises places up t.earlier t.later t.order lt in
    let in_i : i < length (lemmas_of shared) = inside t.earlier 0 (omega (arith, t.order, lt)) in
    let in_j : j < length (lemmas_of shared) = inside t.later 0 lt in
    let same : get_or a.authors i 0 ≡ get_or a.authors j 0 = sym (author_at a.authors places t.earlier 0 (omega (arith, t.order, lt))) ∙ t.same ∙ author_at a.authors places t.later 0 lt in
    let fresh = a.fresh i j less (omega (arith, in_j, a.each)) same in
    record {
      earlier = i;
      later = j;
      order = less;
      first = (t.earlier, omega (arith, t.order, lt), default_of places t.earlier (omega (arith, t.order, lt)));
      second = (t.later, lt, default_of places t.later lt);
      fresh = subst (λ o. IsSomeAnd o (λ x. IsSomeAnd (slice_get (lemmas_of shared) j) (λ y. IsFreshLemma f x y))) (sym (get_at (lemmas_of shared) i [] in_i)) (subst (λ o. IsSomeAnd o (λ y. IsFreshLemma f (get_or (lemmas_of shared) i []) y)) (sym (get_at (lemmas_of shared) j [] in_j)) fresh);
    }
  where
    authors_of : List ℕ → List ℕ → List ℕ
    authors_of authors [] = []
    authors_of authors (place ∷ places) = get_or authors place 0 ∷ authors_of authors places

    authors_long : (authors places : List ℕ) → length (authors_of authors places) ≡ length places
    authors_long authors [] = refl
    authors_long authors (place ∷ places) = ap suc (authors_long authors places)

    author_at : (authors places : List ℕ) (k d : ℕ) → k < length places → get_or (authors_of authors places) k d ≡ get_or authors (get_or places k 0) 0
    author_at authors [] k d lt = absurd (omega (arith, lt))
    author_at authors (place ∷ places) zero d lt = refl
    author_at authors (place ∷ places) (suc k) d lt = author_at authors places k d (omega (arith, lt))

    default_of : (places : List ℕ) (k : ℕ) → k < length places → get_or places k (get_or places k 0) ≡ get_or places k 0
    default_of [] k lt = absurd (omega (arith, lt))
    default_of (place ∷ places) zero lt = refl
    default_of (place ∷ places) (suc k) lt = default_of places k (omega (arith, lt))

    rises : (places : List ℕ) → IsStrictlyIncreasing places → (i j : ℕ) → i < j → j < length places → get_or places i 0 < get_or places j 0
    rises places up i zero lt in' = absurd (omega (arith, lt))
    rises places up i (suc j) lt in' = elim (cases_eq i j) [
      | inl e ↦ subst (λ n. get_or places n 0 < get_or places (suc j) 0) (sym e) (let step : get_or places j 0 < get_or places (j + 1) 0 = up j (omega (arith, in')) in let one : j + 1 ≡ suc j = omega arith in subst (λ n. get_or places j 0 < get_or places n 0) one step)
      | inr ne ↦
          let before : get_or places i 0 < get_or places j 0 = rises places up i j (omega (arith, lt, ne)) (omega (arith, in')) in
          let step : get_or places j 0 < get_or places (j + 1) 0 = up j (omega (arith, in')) in
          let one : j + 1 ≡ suc j = omega arith in
          omega (arith, before, subst (λ n. get_or places j 0 < get_or places n 0) one step)
    ]

pub crew_begins : (f : Problem) (pages : List Page) → All (λ page. page ≡ blank_page) pages → Shared f pages []
crew_begins f pages all = record {
  plain = All-nil (λ line. is_plain line ≡ true);
  fit = All-nil (LineFits f);
  valid = tt;
  lean = tt;
  tied = λ k d lt. subst (λ p. Tied f p []) (sym (all k d lt)) (blank_tied f []);
  apart = λ i j d less lt. subst (λ p. NumbersApart p (get_or pages j d)) (sym (all i d (omega (arith, less, lt)))) (λ number mine his. absurd (omega (arith, mine.1)));
  count = sym (sum_all (λ page. clause_count page.lines) pages refl all);
  lemmas = sym (sum_all (λ page. length (lemmas_of page.lines)) pages refl all);
  authored = none_twice f pages;
}
  where
    sum_all : (g : Page → ℕ) (pages : List Page) → g blank_page ≡ 0 → All (λ page. page ≡ blank_page) pages → sum_by g pages ≡ 0
    sum_all g pages e all = let le = sum_by-le g 0 pages (λ k d lt. omega (arith, e, ap g (all k d lt))) in omega (arith, le)
