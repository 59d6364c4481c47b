-- Rooms of one shape, none of which lies inside an earlier one, are at most as many as there are rooms.
use Rattle.std.proofs.Common.{◌≡◌, ◌≢◌, ℕ, zero, suc, ◌+◌, ◌-◌, ◌*◌, ◌/◌, ◌^◌, ◌<◌, ◌≤◌, true, List, [], ◌∷◌, ◌++◌, length, get_or, refl, sym, ap, ◌∙◌, subst, arith, inl, inr, All, eqb}
use Rattle.std.specs.Prelude.{AllPairs}
use Rattle.std.specs.List.{list_any}
use Rattle.std.proofs.lemmas.Bool.{cases_lt, cases_eq, or_cases, eqb-true}
use Rattle.std.proofs.lemmas.Bool.Decides.{Decides-eqb}
use Rattle.std.proofs.lemmas.List.{length-append}
use Rattle.std.proofs.lemmas.List.Elements.{All-head, All-tail, All-nil, All-cons, All-get_or}
use Rattle.std.proofs.lemmas.Nat.{same_from_place}
use Rattle.std.proofs.lemmas.Map.Made.{IsDistinct-from_AllPairs}
use Rattle.std.proofs.lemmas.Map.Steps.{length-le_from_distinct_below}
use Rattle.std.proofs.Math.Nat.{mul-le-mul_right}
use Rattle.hw_model.specs.declared.order.Order.{Order}
use Rattle.hw_model.specs.declared.order.Order.TheVariants as orders
use Rattle.hw_model.specs.declared.shape.Shape.{Shape}
use Rattle.hw_model.specs.Rooms.{RoomModel, IsRoomOf, RoomWithin, order_of}
use Rattle.hw_model.specs.Walk.{rank}
use Rattle.hw_model_laws.proofs.Rank.{rank_lt, same_rank}

-- ---- ranges by number

abbrev pub tri : ℕ → ℕ
tri zero = 0
tri (suc n) = tri n + suc n

twice_tri : (n : ℕ) → tri n + tri n ≡ n * (n + 1)
twice_tri zero = refl
twice_tri (suc n) = omega (arith, twice_tri n)

half : (t m : ℕ) → t + t ≡ m → t ≡ m / 2
half t m e = omega (arith, e)

tri_is : (n : ℕ) → tri n ≡ n * (n + 1) / 2
tri_is n = half (tri n) (n * (n + 1)) (twice_tri n)

tri_grows : (a b : ℕ) → a ≤ b → tri a ≤ tri b
tri_grows a zero le = let e : a ≡ zero = omega arith in omega (arith, ap tri e)
tri_grows a (suc b) le = elim (cases_lt b a) [
  | inl more ↦ let e : a ≡ suc b = omega arith in omega (arith, ap tri e)
  | inr less ↦ omega (arith, tri_grows a b less)
]

abbrev code : ℕ × ℕ → ℕ
code range = tri range.1 + range.0

code_lt : (slots : ℕ) (range : ℕ × ℕ) → range.0 ≤ range.1 → range.1 < slots → code range < tri slots
code_lt slots range le lt =
    let g : tri (suc range.1) ≤ tri slots = tri_grows (suc range.1) slots (omega (arith, lt)) in
    omega (arith, g, le)

code_less : (a b : ℕ × ℕ) → a.0 ≤ a.1 → a.1 < b.1 → code a < code b
code_less a b le lt =
    let g : tri (suc a.1) ≤ tri b.1 = tri_grows (suc a.1) b.1 (omega (arith, lt)) in
    omega (arith, g, le)

same_code : (a b : ℕ × ℕ) → a.0 ≤ a.1 → b.0 ≤ b.1 → code a ≡ code b → (a.0 ≡ b.0) × (a.1 ≡ b.1)
same_code a b p q e = elim (cases_lt a.1 b.1) [
  | inl lt ↦ absurd (omega (arith, code_less a b p lt, e))
  | inr ge ↦ elim (cases_lt b.1 a.1) [
    | inl lt ↦ absurd (omega (arith, code_less b a q lt, e))
    | inr le ↦
        let high : a.1 ≡ b.1 = omega (arith, ge, le) in
        (omega (arith, e, ap tri high), high)
  ]
]

-- ---- orders by number

abbrev digit : Order → ℕ
digit orders.Unset = 0
digit orders.First = 1
digit orders.NotFirst = 2

digit_lt : (o : Order) → digit o < 3
digit_lt orders.Unset = omega arith
digit_lt orders.First = omega arith
digit_lt orders.NotFirst = omega arith

same_digit : (a b : Order) → digit a ≡ digit b → a ≡ b
same_digit orders.Unset orders.Unset e = refl
same_digit orders.First orders.First e = refl
same_digit orders.NotFirst orders.NotFirst e = refl
same_digit _ _ e = absurd (omega (arith, e))

-- the pairs of w with the lesser ones below k, and all pairs of n ships
abbrev pub row : ℕ → ℕ → List (ℕ × ℕ)
row w zero = []
row w (suc v) = (v, w) ∷ row w v

abbrev pub pairs : ℕ → List (ℕ × ℕ)
pairs zero = []
pairs (suc w) = row w w ++ pairs w

row_length : (w k : ℕ) → length (row w k) ≡ k
row_length w zero = refl
row_length w (suc v) = omega (arith, row_length w v)

twice_pairs : (n : ℕ) → length (pairs (suc n)) + length (pairs (suc n)) ≡ (n + 1) * n
twice_pairs zero = refl
twice_pairs (suc n) =
    let a = twice_pairs n in
    let b = length-append (row (suc n) (suc n)) (pairs (suc n)) in
    let c = row_length (suc n) (suc n) in
    omega (arith, a, b, c)

pub pairs_length : (n : ℕ) → length (pairs n) ≡ n * (n - 1) / 2
pairs_length zero = refl
pairs_length (suc n) = half (length (pairs (suc n))) (suc n * (suc n - 1)) (
    let e : suc n - 1 ≡ n = omega arith in
    let f : suc n ≡ n + 1 = omega arith in
    rw e (rw (← f) at (twice_pairs n)))

-- what holds of each pair of the list
abbrev pub Every : (ℕ × ℕ → Type 0) → List (ℕ × ℕ) → Type 0
Every P [] = Unit {0}
Every P (x ∷ xs) = P x × Every P xs

pub every_append : (P : ℕ × ℕ → Type 0) (xs ys : List (ℕ × ℕ)) → Every P (xs ++ ys) → Every P xs × Every P ys
every_append P [] ys h = (tt, h)
every_append P (x ∷ xs) ys h = let r = every_append P xs ys h.1 in ((h.0, r.0), r.1)

in_row : (P : ℕ × ℕ → Type 0) (w k : ℕ) → Every P (row w k) → (v : ℕ) → v < k → P (v, w)
in_row P w zero h v lt = absurd (omega (arith, lt))
in_row P w (suc k) h v lt = elim (cases_eq v k) [
  | inl e ↦ subst (λ (x : ℕ). P (x, w)) (sym e) h.0
  | inr ne ↦ in_row P w k h.1 v (less v k lt ne)
]
  where
    less : (v k : ℕ) → v < suc k → (v ≡ k → ⊥) → v < k
    less v k lt ne = grind arith

in_pairs : (P : ℕ × ℕ → Type 0) (n : ℕ) → Every P (pairs n) → (v w : ℕ) → v < w → w < n → P (v, w)
in_pairs P zero h v w lt lw = absurd (omega (arith, lw))
in_pairs P (suc n) h v w lt lw =
    let parts = every_append P (row n n) (pairs n) h in
    elim (cases_eq w n) [
      | inl e ↦ subst (λ (x : ℕ). P (v, x)) (sym e) (in_row P n n parts.0 v (omega (arith, lt, e)))
      | inr ne ↦ in_pairs P n parts.1 v w lt (less w n lw ne)
    ]
  where
    less : (v k : ℕ) → v < suc k → (v ≡ k → ⊥) → v < k
    less v k lt ne = grind arith

-- ---- lists of digits

abbrev ranges_code : List (ℕ × ℕ) → List ℕ
ranges_code [] = []
ranges_code (x ∷ xs) = code x ∷ ranges_code xs

abbrev orders_code : RoomModel → List (ℕ × ℕ) → List ℕ
orders_code room [] = []
orders_code room (p ∷ ps) = digit (order_of room p.0 p.1) ∷ orders_code room ps

ranges_long : (xs : List (ℕ × ℕ)) → length (ranges_code xs) ≡ length xs
ranges_long [] = refl
ranges_long (x ∷ xs) = omega (arith, ranges_long xs)

orders_long : (room : RoomModel) (ps : List (ℕ × ℕ)) → length (orders_code room ps) ≡ length ps
orders_long room [] = refl
orders_long room (p ∷ ps) = omega (arith, orders_long room ps)

-- ranges that a room may have
abbrev Proper : ℕ → List (ℕ × ℕ) → Type 0
Proper slots [] = Unit {0}
Proper slots (x ∷ xs) = ((x.0 ≤ x.1) × (x.1 < slots)) × Proper slots xs

proper_of : (slots : ℕ) (xs : List (ℕ × ℕ)) → All (λ range. range.0 ≤ range.1) xs → All (λ range. range.1 < slots) xs → Proper slots xs
proper_of slots [] h g = tt
proper_of slots (x ∷ xs) h g =
    let here : x.0 ≤ x.1 = All-head (λ (range : ℕ × ℕ). range.0 ≤ range.1) x xs h in
    let below : x.1 < slots = All-head (λ (range : ℕ × ℕ). range.1 < slots) x xs g in
    ((here, below), proper_of slots xs (All-tail (λ (range : ℕ × ℕ). range.0 ≤ range.1) x xs h) (All-tail (λ (range : ℕ × ℕ). range.1 < slots) x xs g))

ranges_small : (slots : ℕ) (xs : List (ℕ × ℕ)) → Proper slots xs → All (λ t. t < tri slots) (ranges_code xs)
ranges_small slots [] h = All-nil (λ t. t < tri slots)
ranges_small slots (x ∷ xs) h = All-cons (λ t. t < tri slots) (code x) (ranges_code xs) (code_lt slots x h.0.0 h.0.1) (ranges_small slots xs h.1)

orders_small : (room : RoomModel) (ps : List (ℕ × ℕ)) → All (λ t. t < 3) (orders_code room ps)
orders_small room [] = All-nil (λ t. t < 3)
orders_small room (p ∷ ps) = All-cons (λ t. t < 3) (digit (order_of room p.0 p.1)) (orders_code room ps) (digit_lt _) (orders_small room ps)

same_ranges : (slots : ℕ) (xs ys : List (ℕ × ℕ)) → Proper slots xs → Proper slots ys → ranges_code xs ≡ ranges_code ys → (k : ℕ) → ((get_or xs k (0, 0)).0 ≡ (get_or ys k (0, 0)).0) × ((get_or xs k (0, 0)).1 ≡ (get_or ys k (0, 0)).1)
same_ranges slots [] [] h g e k = (refl, refl)
same_ranges slots [] (y ∷ ys) h g e k = absurd cc
same_ranges slots (x ∷ xs) [] h g e k = absurd cc
same_ranges slots (x ∷ xs) (y ∷ ys) h g e zero = let c : code x ≡ code y = cc in same_code x y h.0.0 g.0.0 c
same_ranges slots (x ∷ xs) (y ∷ ys) h g e (suc k) = let c : ranges_code xs ≡ ranges_code ys = cc in same_ranges slots xs ys h.1 g.1 c k

same_orders : (a b : RoomModel) (ps : List (ℕ × ℕ)) → orders_code a ps ≡ orders_code b ps → Every (λ p. order_of a p.0 p.1 ≡ order_of b p.0 p.1) ps
same_orders a b [] e = tt
same_orders a b (p ∷ ps) e =
    let here : digit (order_of a p.0 p.1) ≡ digit (order_of b p.0 p.1) = cc in
    let rest : orders_code a ps ≡ orders_code b ps = cc in
    (same_digit _ _ here, same_orders a b ps rest)

-- ---- one number for a room

abbrev room_code : Shape → RoomModel → ℕ
room_code shape room = rank (tri shape.slots) (ranges_code room.ranges) * 3 ^ length (pairs shape.ships) + rank 3 (orders_code room (pairs shape.ships))

orders_rank : (shape : Shape) (room : RoomModel) → rank 3 (orders_code room (pairs shape.ships)) < 3 ^ length (pairs shape.ships)
orders_rank shape room =
    let a : rank 3 (orders_code room (pairs shape.ships)) < 3 ^ length (orders_code room (pairs shape.ships)) = rank_lt 3 _ (orders_small room (pairs shape.ships)) in
    subst (λ n. rank 3 (orders_code room (pairs shape.ships)) < 3 ^ n) (orders_long room (pairs shape.ships)) a

proper_room : (shape : Shape) (room : RoomModel) → IsRoomOf shape room → Proper shape.slots room.ranges
proper_room shape room i = subst (λ n. Proper n room.ranges) i.same_slots (proper_of room.slots room.ranges i.is_room.ordered i.is_room.in_slots)

ranges_rank : (shape : Shape) (room : RoomModel) → IsRoomOf shape room → rank (tri shape.slots) (ranges_code room.ranges) < tri shape.slots ^ shape.ships
ranges_rank shape room i =
    let a : rank (tri shape.slots) (ranges_code room.ranges) < tri shape.slots ^ length (ranges_code room.ranges) = rank_lt (tri shape.slots) _ (ranges_small shape.slots room.ranges (proper_room shape room i)) in
    subst (λ n. rank (tri shape.slots) (ranges_code room.ranges) < tri shape.slots ^ n) (ranges_long room.ranges ∙ i.is_room.each_ship ∙ i.same_ships) a

placed : (a n r m : ℕ) → a < n → r < m → a * m + r < n * m
placed a n r m p q =
    let le : a + 1 ≤ n = omega (arith, p) in
    let one : (a + 1) * m ≤ n * m = mul-le-mul_right m le in
    omega (arith, one, q)

code_small : (shape : Shape) (room : RoomModel) → IsRoomOf shape room → room_code shape room < tri shape.slots ^ shape.ships * 3 ^ length (pairs shape.ships)
code_small shape room i = placed _ _ _ _ (ranges_rank shape room i) (orders_rank shape room)

-- rooms of one number lie inside each other
same_number : (shape : Shape) (a b : RoomModel) → IsRoomOf shape a → IsRoomOf shape b → room_code shape a ≡ room_code shape b → RoomWithin b a
same_number shape a b i j e =
    let parts = same_from_place (rank (tri shape.slots) (ranges_code a.ranges)) (rank 3 (orders_code a (pairs shape.ships))) (rank (tri shape.slots) (ranges_code b.ranges)) (rank 3 (orders_code b (pairs shape.ships))) (3 ^ length (pairs shape.ships)) (orders_rank shape a) (orders_rank shape b) e in
    let pa = proper_room shape a i in
    let pb = proper_room shape b j in
    let la : length (ranges_code a.ranges) ≡ length (ranges_code b.ranges) = ranges_long a.ranges ∙ i.is_room.each_ship ∙ i.same_ships ∙ sym (ranges_long b.ranges ∙ j.is_room.each_ship ∙ j.same_ships) in
    let lo : length (orders_code a (pairs shape.ships)) ≡ length (orders_code b (pairs shape.ships)) = orders_long a (pairs shape.ships) ∙ sym (orders_long b (pairs shape.ships)) in
    let rs : ranges_code a.ranges ≡ ranges_code b.ranges = same_rank (tri shape.slots) _ _ (ranges_small shape.slots a.ranges pa) (ranges_small shape.slots b.ranges pb) la parts.0 in
    let os : orders_code a (pairs shape.ships) ≡ orders_code b (pairs shape.ships) = same_rank 3 _ _ (orders_small a (pairs shape.ships)) (orders_small b (pairs shape.ships)) lo parts.1 in
    let same = same_ranges shape.slots a.ranges b.ranges pa pb rs in
    record {
      lows = λ ship lt. omega (arith, (same ship).0);
      highs = λ ship lt. omega (arith, (same ship).1);
      orders = λ v w vw lt. inr (sym (in_pairs (λ p. order_of a p.0 p.1 ≡ order_of b p.0 p.1) shape.ships (same_orders a b (pairs shape.ships) os) v w vw (omega (arith, lt, i.same_ships))));
    }

-- ---- the law

abbrev codes : Shape → List RoomModel → List ℕ
codes shape [] = []
codes shape (room ∷ rooms) = room_code shape room ∷ codes shape rooms

codes_long : (shape : Shape) (rooms : List RoomModel) → length (codes shape rooms) ≡ length rooms
codes_long shape [] = refl
codes_long shape (room ∷ rooms) = omega (arith, codes_long shape rooms)

codes_at : (shape : Shape) (rooms : List RoomModel) (k d : ℕ) (e : RoomModel) → k < length rooms → get_or (codes shape rooms) k d ≡ room_code shape (get_or rooms k e)
codes_at shape [] k d e lt = absurd (omega (arith, lt))
codes_at shape (room ∷ rooms) zero d e lt = refl
codes_at shape (room ∷ rooms) (suc k) d e lt = codes_at shape rooms k d e (omega (arith, lt))

some_room : Shape → RoomModel
some_room shape = record { ships = shape.ships; slots = shape.slots; ranges = []; orders = [] }

below_all : (n q : ℕ) (xs : List ℕ) → All (λ x. x < n) xs → list_any (eqb q) xs ≡ true → q < n
below_all n q [] h e = absurd cc
below_all n q (x ∷ xs) h e = elim (or_cases _ _ e) [
  | inl y ↦ let same : q ≡ x = eqb-true _ _ y in let lt : x < n = All-head (λ x. x < n) x xs h in omega (arith, same, lt)
  | inr y ↦ below_all n q xs (All-tail (λ x. x < n) x xs h) y
]

codes_small : (shape : Shape) (rooms : List RoomModel) → All (IsRoomOf shape) rooms → All (λ x. x < tri shape.slots ^ shape.ships * 3 ^ length (pairs shape.ships)) (codes shape rooms)
codes_small shape [] h = All-nil (λ x. x < tri shape.slots ^ shape.ships * 3 ^ length (pairs shape.ships))
codes_small shape (room ∷ rooms) h = All-cons (λ x. x < tri shape.slots ^ shape.ships * 3 ^ length (pairs shape.ships)) (room_code shape room) (codes shape rooms) (code_small shape room (All-head (IsRoomOf shape) room rooms h)) (codes_small shape rooms (All-tail (IsRoomOf shape) room rooms h))

codes_differ : (shape : Shape) (rooms : List RoomModel) → All (IsRoomOf shape) rooms → AllPairs (λ earlier later. RoomWithin later earlier → ⊥) rooms → AllPairs (λ x y. x ≢ y) (codes shape rooms)
codes_differ shape rooms h new = λ i j d lt in'.
    let long : j < length rooms = omega (arith, in', codes_long shape rooms) in
    let first : i < length rooms = omega (arith, long, lt) in
    let r = some_room shape in
    λ e.
    new i j r lt long (same_number shape (get_or rooms i r) (get_or rooms j r) (All-get_or (IsRoomOf shape) rooms i r first h) (All-get_or (IsRoomOf shape) rooms j r long h) (sym (codes_at shape rooms i d r first) ∙ e ∙ codes_at shape rooms j d r long))

pub rooms_few : (shape : Shape) (rooms : List RoomModel) → All (IsRoomOf shape) rooms → AllPairs (λ earlier later. RoomWithin later earlier → ⊥) rooms → length rooms ≤ (shape.slots * (shape.slots + 1) / 2) ^ shape.ships * 3 ^ (shape.ships * (shape.ships - 1) / 2)
rooms_few shape rooms h new =
    let bound : length (codes shape rooms) ≤ tri shape.slots ^ shape.ships * 3 ^ length (pairs shape.ships) =
    length-le_from_distinct_below (codes shape rooms) _ (IsDistinct-from_AllPairs Decides-eqb (codes shape rooms) (codes_differ shape rooms h new)) (λ q e. below_all _ q (codes shape rooms) (codes_small shape rooms h) e) in
    let b2 : length rooms ≤ tri shape.slots ^ shape.ships * 3 ^ length (pairs shape.ships) = omega (arith, bound, codes_long shape rooms) in
    subst (λ n. length rooms ≤ n ^ shape.ships * 3 ^ (shape.ships * (shape.ships - 1) / 2)) (tri_is shape.slots) (subst (λ n. length rooms ≤ tri shape.slots ^ shape.ships * 3 ^ n) (pairs_length shape.ships) b2)
