-- The parts that nodes make.
use Rattle.std.proofs.Common.{◌≡◌, inl, inr, ℕ, ◌+◌, ◌-◌, ◌≤◌, Bool, true, false, not, ◌&&◌, cond, nat_lt, nat_le, List, [], ◌∷◌, ◌++◌, length, None, slice_get, slice_index, All, count_by, refl, sym, ap, ◌∙◌, arith}
use Rattle.std.proofs.Math.Path.{ap₂}
use Rattle.std.proofs.lemmas.Bool.{ltb-true, ltb-false, lt-leb, le-leb, cases_Bool, and_parts}
use Rattle.std.proofs.lemmas.List.Elements.{All-nil, All-cons, All-head, All-tail, All-push, All-weaker}
use Rattle.std.specs.List.{list_all}
use Rattle.std.proofs.lemmas.List.Folds.{list_all-append}
use Rattle.std.proofs.lemmas.List.Sums.{sum_by-cons}
use Rattle.hw_model.specs.declared.lit.Lit.{Lit}
use Rattle.hw_model.specs.declared.lit.Lit.TheVariants.{AtOrAfter, Before}
use Rattle.hw_model.specs.declared.shape.Shape.{Shape}
use Rattle.hw_model.specs.Lits.{lit_fits, lit_holds}
use Rattle.hw_model.specs.Rooms.{whole_room}
use Rattle.hw_split_text.specs.declared.node.Node.{Node}
use Rattle.hw_split_text.specs.declared.node.Node.TheVariants.{Fork, Part}
use Rattle.hw_split_text.specs.Splits.{Branch, parts_from, split_parts, part_at, is_part, branch_holds, branch_room, fork_fits, is_inside, Completes}
use Rattle.hw_split_text.specs.Rooms.{OpenInTurn, HasRoom}
use Rattle.hw_split_text.specs.Laws.{LiteralsFit, OnePart, PartRooms, PartsCounted, PartsOpen}
use Rattle.hw_split_text.proofs.Rooms.{both_open, has_room}

-- ---- one part holds of a timetable

count_cons : {A : Type 0} (p : A → Bool) (x : A) (xs : List A) → count_by p (x ∷ xs) ≡ cond (p x) 1 0 + count_by p xs
count_cons {A} p x xs = sum_by-cons (λ (y : A). cond (p y) 1 0) x xs

one_holds : (table : List ℕ) (lit : Lit) → list_all (lit_holds table) (lit ∷ []) ≡ lit_holds table lit
one_holds table lit = elim (cases_Bool (lit_holds table lit)) [
  | inl t ↦ rw t refl
  | inr f ↦ rw f refl
]

holds_push : (table : List ℕ) (branch : Branch) (lit : Lit) → branch_holds table (branch ++ lit ∷ []) ≡ (branch_holds table branch && lit_holds table lit)
holds_push table branch lit =
    list_all-append (lit_holds table) branch (lit ∷ []) ∙ ap (λ (b : Bool). branch_holds table branch && b) (one_holds table lit)

other_side : (m n : ℕ) → nat_le m n ≡ not (nat_lt n m)
other_side m n = elim (cases_Bool (nat_lt n m)) [
  | inl t ↦ lt-leb m n (ltb-true n m t) ∙ ap not (sym t)
  | inr f ↦ le-leb m n (ltb-false n m f) ∙ ap not (sym f)
]

either_side : (h t : Bool) (n : ℕ) → cond (h && t) 1 0 + (cond (h && not t) 1 0 + n) ≡ cond h 1 0 + n
either_side true true n = omega arith
either_side true false n = omega arith
either_side false true n = omega arith
either_side false false n = omega arith

forked : (table : List ℕ) (branch : Branch) (ship slot : ℕ) (waiting : List Branch)
    → count_by (branch_holds table) ((branch ++ Before ship slot ∷ []) ∷ (branch ++ AtOrAfter ship slot ∷ []) ∷ waiting) ≡ count_by (branch_holds table) (branch ∷ waiting)
forked table branch ship slot waiting =
    let holds : Branch → Bool = branch_holds table in
    let before : Branch = branch ++ Before ship slot ∷ [] in
    let after : Branch = branch ++ AtOrAfter ship slot ∷ [] in
    let first : Bool = nat_lt (slice_index table ship) slot in
    let later : holds after ≡ (holds branch && not first) =
    holds_push table branch (AtOrAfter ship slot) ∙ ap (λ (b : Bool). holds branch && b) (other_side slot (slice_index table ship)) in
    count_cons holds before (after ∷ waiting)
    ∙ ap (λ (n : ℕ). cond (holds before) 1 0 + n) (count_cons holds after waiting)
    ∙ ap₂ (λ (a b : Bool). cond a 1 0 + (cond b 1 0 + count_by holds waiting)) (holds_push table branch (Before ship slot)) later
    ∙ either_side (holds branch) first (count_by holds waiting)
    ∙ sym (count_cons holds branch waiting)

covered : (shape : Shape) (table : List ℕ) (waiting : List Branch) (nodes : List Node) → Completes shape waiting nodes → count_by (branch_holds table) (parts_from waiting nodes) ≡ count_by (branch_holds table) waiting
covered shape table waiting [] c = ap (count_by (branch_holds table)) (sym c)
covered shape table [] (node ∷ nodes) c = absurd c.0
covered shape table (branch ∷ waiting) (Fork ship slot ∷ nodes) c =
    covered shape table ((branch ++ Before ship slot ∷ []) ∷ (branch ++ AtOrAfter ship slot ∷ []) ∷ waiting) nodes c.1 ∙ forked table branch ship slot waiting
covered shape table (branch ∷ waiting) (Part ∷ nodes) c =
    count_cons (branch_holds table) branch (parts_from waiting nodes)
    ∙ ap (λ (n : ℕ). cond (branch_holds table branch) 1 0 + n) (covered shape table waiting nodes c.1)
    ∙ sym (count_cons (branch_holds table) branch waiting)

pub one_part : OnePart
one_part shape nodes table split = covered shape table ([] ∷ []) nodes split

-- ---- how many parts

counted : (shape : Shape) (waiting : List Branch) (nodes : List Node) → Completes shape waiting nodes → length (parts_from waiting nodes) ≡ count_by is_part nodes
counted shape waiting [] c = refl
counted shape [] (node ∷ nodes) c = absurd c.0
counted shape (branch ∷ waiting) (Fork ship slot ∷ nodes) c =
    let later = counted shape ((branch ++ Before ship slot ∷ []) ∷ (branch ++ AtOrAfter ship slot ∷ []) ∷ waiting) nodes c.1 in
    omega (arith, later, count_cons is_part (Fork ship slot) nodes)
counted shape (branch ∷ waiting) (Part ∷ nodes) c =
    let later = counted shape waiting nodes c.1 in
    omega (arith, later, count_cons is_part Part nodes)

pub parts_counted : PartsCounted
parts_counted shape nodes split = counted shape ([] ∷ []) nodes split

-- ---- what holds of each part

-- what both sides of a fork have from their branch, the parts have from the branches that wait
each_part : (shape : Shape) (P : Branch → Type 0) → ((branch : Branch) (ship slot : ℕ) → fork_fits shape (branch_room shape branch).ranges ship slot ≡ true → P branch → P (branch ++ Before ship slot ∷ []) × P (branch ++ AtOrAfter ship slot ∷ []))
    → (waiting : List Branch) (nodes : List Node) → All P waiting → Completes shape waiting nodes → All P (parts_from waiting nodes)
each_part shape P sides waiting [] all c = All-nil P
each_part shape P sides [] (node ∷ nodes) all c = absurd c.0
each_part shape P sides (branch ∷ waiting) (Fork ship slot ∷ nodes) all c =
    let before : Branch = branch ++ Before ship slot ∷ [] in
    let after : Branch = branch ++ AtOrAfter ship slot ∷ [] in
    let both = sides branch ship slot c.0 (All-head P branch waiting all) in
    each_part shape P sides (before ∷ after ∷ waiting) nodes (All-cons P before (after ∷ waiting) both.0 (All-cons P after waiting both.1 (All-tail P branch waiting all))) c.1
each_part shape P sides (branch ∷ waiting) (Part ∷ nodes) all c =
    All-cons P branch (parts_from waiting nodes) (All-head P branch waiting all) (each_part shape P sides waiting nodes (All-tail P branch waiting all) c.1)

abbrev AllFit : Shape → Branch → Type 0
AllFit shape branch = All (λ lit. lit_fits shape lit ≡ true) branch

pub literals_fit : LiteralsFit
literals_fit shape nodes split = each_part shape (AllFit shape)
    (λ branch ship slot fits all.
    let lit : lit_fits shape (AtOrAfter ship slot) ≡ true = (and_parts (lit_fits shape (AtOrAfter ship slot)) (is_inside (branch_room shape branch).ranges ship slot) fits).0 in
    (All-push (λ l. lit_fits shape l ≡ true) branch (Before ship slot) all lit, All-push (λ l. lit_fits shape l ≡ true) branch (AtOrAfter ship slot) all lit))
    ([] ∷ []) nodes (All-cons (AllFit shape) [] [] (All-nil (λ l. lit_fits shape l ≡ true)) (All-nil (AllFit shape))) split

abbrev Opens : Shape → Branch → Type 0
Opens shape branch = OpenInTurn (whole_room shape) branch

pub parts_open : PartsOpen
parts_open shape nodes split = each_part shape (Opens shape) (λ branch ship slot fits turn. both_open shape branch ship slot fits turn)
    ([] ∷ []) nodes (All-cons (Opens shape) [] [] tt (All-nil (Opens shape))) split

pub part_rooms : PartRooms
part_rooms shape nodes limits split =
    All-weaker (Opens shape) (HasRoom shape) (λ branch turn. has_room shape branch limits turn) (split_parts nodes) (parts_open shape nodes split)

-- ---- the part of a number, as a loop looks for it

pub record Seeks (split : List Node) (number left : ℕ) (waiting : List Branch) (nodes : List Node) : Type 0 where
  pub some : 1 ≤ left
  pub same : slice_get (parts_from waiting nodes) (left - 1) ≡ part_at split number

none_wait : (nodes : List Node) → parts_from [] nodes ≡ []
none_wait [] = refl
none_wait (node ∷ nodes) = none_wait nodes

-- no branch waits
pub ended : (split nodes : List Node) (number left : ℕ) (waiting : List Branch) → Seeks split number left waiting nodes → slice_get waiting 0 ≡ None → None ≡ part_at split number
ended split nodes number left [] s none = ap (λ (parts : List Branch). slice_get parts (left - 1)) (sym (none_wait nodes)) ∙ s.same
ended split nodes number left (branch ∷ waiting) s none = absurd cc
