-- Steps of loops that append.
use Rattle.std.proofs.Common.{◌≡◌, ℕ, suc, ◌+◌, ◌<◌, Bool, true, false, cond, List, [], ◌∷◌, ◌++◌, map, filter, drop, get_or, length, codes, drop-cons, append_assoc, append-nil, add-one, refl, sym, ap, ◌∙◌, arith}
use Rattle.std.proofs.lemmas.List.FromFn.{map-range_with_len_more}
use Rattle.std.specs.List.{list_any, range_with_len}
use Rattle.hw_port.specs.declared.parts.Stretch.{Stretch}
use Rattle.hw_port.specs.Parts.{ShipParts}
use Rattle.hw_port.specs.Whole.{Parts}
use Rattle.hw_port_model.specs.Numbers.{whole}
use Rattle.hw_port_named.specs.declared.named.Named.{Named}
use Rattle.hw_port_named.specs.declared.named.Named.TheVariants.{Window}
use Rattle.hw_port_named.specs.Restrictions.{uses, shared_sections, pair_named, named_with, has_tugs, tugs_named}
use Rattle.hw_port_named.specs.Lines.{section_name, slashed}

-- one more window
pub more_windows : (front list : List Named) (n : ℕ) → list ≡ front ++ map (λ v. Window v) (range_with_len 0 n) → list ++ Window n ∷ [] ≡ front ++ map (λ v. Window v) (range_with_len 0 (n + 1))
more_windows front list n told =
    ap (λ xs. xs ++ Window n ∷ []) told
    ∙ (append_assoc front (map (λ v. Window v) (range_with_len 0 n)) (Window n ∷ [])
    ∙ ap (λ xs. front ++ xs) (sym (map-range_with_len_more (λ v. Window v) 0 n n (let e : 0 + n ≡ n = omega arith in e))))

first_of_two : (n : ℕ) (a : Stretch) (rest : List Stretch) (t : Bool) → map (λ a. whole a.section) (cond t (a ∷ rest) rest) ≡ map (λ a. whole a.section) (cond t (a ∷ []) []) ++ map (λ a. whole a.section) rest
first_of_two n a rest true = refl
first_of_two n a rest false = refl

shared_one : (a : Stretch) (channel others : List Stretch) → shared_sections (a ∷ channel) others ≡ shared_sections (a ∷ []) others ++ shared_sections channel others
shared_one a channel others = first_of_two 0 a (filter (λ a. uses others a.section) channel) (uses others a.section)

-- one more stretch
pub more_shared : (channel others : List Stretch) (front total : List ℕ) (i : ℕ) (d : Stretch) → i < length channel → front ++ shared_sections (drop i channel) others ≡ total
    → (front ++ shared_sections (get_or channel i d ∷ []) others) ++ shared_sections (drop (i + 1) channel) others ≡ total
more_shared channel others front total i d lt told =
    let one : shared_sections (drop i channel) others ≡ shared_sections (get_or channel i d ∷ []) others ++ shared_sections (drop (i + 1) channel) others = rw (add-one, drop-cons channel i d) (shared_one (get_or channel i d) (drop (suc i) channel) others) in
    append_assoc front (shared_sections (get_or channel i d ∷ []) others) (shared_sections (drop (i + 1) channel) others) ∙ (ap (λ xs. front ++ xs) (sym one) ∙ told)

-- one more ship after the first of a pair
pub more_pairs : (p : Parts) (v : ℕ) (s : ShipParts) (first : ℕ) (rest : List ShipParts) (front total : List Named) (i : ℕ) (d : ShipParts) → i < length rest → d ≡ get_or rest i d
    → front ++ named_with p v s (first + i) (drop i rest) ≡ total → (front ++ pair_named p v s (first + i) d) ++ named_with p v s (first + (i + 1)) (drop (i + 1) rest) ≡ total
more_pairs p v s first rest front total i d lt at told =
    let next : first + i + 1 ≡ first + (i + 1) = omega arith in
    let cut : drop i rest ≡ get_or rest i d ∷ drop (i + 1) rest = rw add-one (drop-cons rest i d lt) in
    let one : named_with p v s (first + i) (drop i rest) ≡ pair_named p v s (first + i) d ++ named_with p v s (first + i + 1) (drop (i + 1) rest) =
    ap (named_with p v s (first + i)) cut ∙ ap (λ r. pair_named p v s (first + i) r ++ named_with p v s (first + i + 1) (drop (i + 1) rest)) (sym at) in
    append_assoc front (pair_named p v s (first + i) d) (named_with p v s (first + (i + 1)) (drop (i + 1) rest))
    ∙ (ap (λ n. front ++ (pair_named p v s (first + i) d ++ named_with p v s n (drop (i + 1) rest))) (sym next) ∙ (ap (λ xs. front ++ xs) (sym one) ∙ told))

-- one more section's name
pub more_sections : (p : Parts) (sections front total : List ℕ) (i : ℕ) → i < length sections → front ++ slashed (map (section_name p) (drop i sections)) ≡ total
    → ((front ++ codes " / ") ++ section_name p (get_or sections i 0)) ++ slashed (map (section_name p) (drop (i + 1) sections)) ≡ total
more_sections p sections front total i lt told =
    let cut : drop i sections ≡ get_or sections i 0 ∷ drop (i + 1) sections = rw add-one (drop-cons sections i 0 lt) in
    let rest : List ℕ = slashed (map (section_name p) (drop (i + 1) sections)) in
    let name : List ℕ = section_name p (get_or sections i 0) in
    append_assoc (front ++ codes " / ") name rest
    ∙ (append_assoc front (codes " / ") (name ++ rest)
    ∙ (ap (λ xs. front ++ xs) (sym (append_assoc (codes " / ") name rest) ∙ sym (ap (λ xs. slashed (map (section_name p) xs)) cut)) ∙ told))

-- ---- the parts of a line

-- no ship has tugs
pub no_tugs : (p : Parts) (front : List Named) → list_any has_tugs p.ships ≡ false → front ≡ front ++ tugs_named p
no_tugs p front none = rw none (sym (append-nil front))
