-- The plain explanation of a reduced room.
use Rattle.std.proofs.Common.{◌≡◌, ℕ, ◌<◌, ◌≤◌, ◌+◌, ◌-◌, ◌*◌, Bool, true, false, cond, ◌&&◌, ◌||◌, nat_le, count_by, Option, Some, None, IsTrue, List, [], ◌∷◌, ◌++◌, length, refl, sym, ap, subst, ◌∙◌, arith, inl, inr}
use Rattle.std.specs.Prelude.{replicate, if◌then◌else◌, nat_lt, ◌^◌}
use Rattle.std.specs.List.{flat_map, AllByRecursion, list_any}
use Rattle.std.proofs.lemmas.Bool.{ltb-true, lt-ltb, le-leb, and_from, and_parts}
use Rattle.std.proofs.lemmas.List.Sums.{sum_by-cons, length-filter}
use Rattle.std.proofs.lemmas.List.Elements.{All-nil, All-cons}
use Rattle.std.proofs.lemmas.List.{length-replicate, get_or-replicate}
use Rattle.hw_model.specs.declared.order.Order.{Order}
use Rattle.hw_model.specs.declared.order.Order.TheVariants as orders
use Rattle.hw_model.specs.declared.lit.Lit.TheVariants.{AtOrAfter, Before}
use Rattle.hw_model.specs.declared.lit.Lit.TheVariants as lits
use Rattle.hw_prop.specs.declared.reduction.Edge.{Edge}
use Rattle.hw_model.specs.Rooms.{RoomModel, IsRoom}
use Rattle.hw_prop.specs.Plain.{range_of}
use Rattle.hw_model.specs.Rooms.{low_of, high_of, order_of, whole_room}
use Rattle.hw_prop.proofs.Words.{deny_all}
use Rattle.hw_model.specs.Narrowing.{denied}
use Rattle.hw_prop.specs.Explains.{Explains}
use Rattle.hw_prop.specs.Speaks.{IsLocal, IsExplanation}
use Rattle.hw_prop.proofs.Frees.{none_true, one_free}
use Rattle.hw_prop.proofs.Normals.{plain_normal}
use Rattle.hw_lits.specs.Normal.{IsNormal, widest_shape}
use Rattle.hw_lits.proofs.Forms.{clause_wider}
use Rattle.hw_prop.specs.Plain.{ship_lits, pair_lits, order_lits, plain, Climb, ClimbPairs, In, SpeaksOf, lit_true, lit_free, normal_after}
use Rattle.hw_model.specs.declared.shape.Shape.{Shape}
use Rattle.hw_model.specs.declared.lit.Lit.{Lit}
use Rattle.hw_model.specs.declared.source.Source.{Source}
use Rattle.hw_model.specs.Problem.{Problem, shape_of}
use Rattle.hw_model.specs.Limits.{IsFlat}
use Rattle.hw_model.specs.Lits.{lit_fits, keeps_form, out_of_range, not_normal, first_bad_from}
use Rattle.hw_model.specs.Refuting.{Refutes}
use Rattle.hw_model.specs.Quiet.{QuietSource, SpeaksOnlyOf, names_order, names_lit}
use Rattle.hw_model_laws.proofs.Alikes.{alike_refutes}
use Rattle.hw_model_laws.proofs.Quiets.{back, cut_alike}
use Rattle.hw_model.specs.Refuting.{IsSourceOf}
use Rattle.hw_model.specs.Rooms.{RoomFits}
use Rattle.hw_model.specs.Narrowing.{cut}
use Rattle.hw_prop.specs.Finds.{Explanation, Finds}
use Rattle.hw_lits.specs.declared.found.Found.{Found}
use Rattle.hw_lits.specs.declared.found.Found.TheVariants as founds
use Rattle.hw_lits.proofs.SaidRooms.{good_from}
use Rattle.hw_prop.specs.Speaks.{SpokenOf, FindsBy}
use Rattle.hw_prop.specs.Reductions.{IsQuiet}
use Rattle.hw_prop.specs.declared.reduction.Reduction.TheVariants as reductions
use Rattle.hw_prop.proofs.Denial.{put_all, put_pairs, deny_append, deny_ships, deny_pairs, WholeFrom, put_all_in, pairs_keep_ranges, ships_keep_orders, ships_keep_ships, order_in, PairsIn, place_in}

-- 1. the denied room of the plain explanation has the ranges and the orders of which it speaks
abbrev whole : ℕ → ℕ → RoomModel
whole n s = whole_room (record { ships = n; slots = s; rules = 0 })

abbrev shape_by : ℕ → ℕ → ℕ → Shape
shape_by n s m = record { ships = n; slots = s; rules = m }

abbrev shape_at : RoomModel → ℕ → Shape
shape_at d m = record { ships = d.ships; slots = d.slots; rules = m }

whole_whole : (n slots : ℕ) → WholeFrom 0 n slots (whole n slots)
whole_whole n slots = (omega (arith, length-replicate {A = ℕ × ℕ} n (0, slots - 1)), λ v p q. get_or-replicate n v (0, slots - 1) (0, 0) q)

climbing_in : (a b n : ℕ) (ps : List (ℕ × ℕ)) → ClimbPairs a b n ps → PairsIn n ps
climbing_in a b n [] c = tt
climbing_in a b n (p ∷ ps) c = (c.1, c.2, climbing_in p.0 p.1 n ps c.3)

is_put : (d : RoomModel) (m : ℕ) (ships : List ℕ) (ps : List (ℕ × ℕ)) → Climb 0 d.ships ships → ((v : ℕ) → v < d.ships → high_of d v < d.slots)
    → denied (shape_at d m) (plain d ships ps) ≡ put_pairs d ps (put_all d ships (whole d.ships d.slots))
is_put d m ships ps c s =
    deny_append (flat_map (ship_lits d) ships) (flat_map (pair_lits d) ps) (whole d.ships d.slots)
    ∙ ap (deny_all (flat_map (pair_lits d) ps)) (deny_ships d (whole d.ships d.slots) ships 0 d.ships c (whole_whole d.ships d.slots) s)
    ∙ deny_pairs d (put_all d ships (whole d.ships d.slots)) ps

pub denied_range : (d : RoomModel) (m : ℕ) (ships : List ℕ) (ps : List (ℕ × ℕ)) (u : ℕ) → Climb 0 d.ships ships → ((v : ℕ) → v < d.ships → high_of d v < d.slots) → In u ships
    → range_of (denied (shape_at d m) (plain d ships ps)) u ≡ range_of d u
denied_range d m ships ps u c s i =
    ap (λ r. range_of r u) (is_put d m ships ps c s)
    ∙ ap (λ rs. range_of (record d { ranges = rs }) u) (pairs_keep_ranges d (put_all d ships (whole d.ships d.slots)) ps)
    ∙ put_all_in d (whole d.ships d.slots) ships 0 d.ships u c (omega (arith, length-replicate {A = ℕ × ℕ} d.ships (0, d.slots - 1))) i

pub denied_order : (d : RoomModel) (k : ℕ) (ships : List ℕ) (a b : ℕ) (ps : List (ℕ × ℕ)) (v w : ℕ) → Climb 0 d.ships ships → ((v : ℕ) → v < d.ships → high_of d v < d.slots) → ClimbPairs a b d.ships ps → v < w → w < d.ships → In (v, w) ps
    → order_of (denied (shape_at d k) (plain d ships ps)) v w ≡ order_of d v w
denied_order d k ships a b ps v w c s q l m i =
    let r : RoomModel = put_all d ships (whole d.ships d.slots) in
    let same : r.ships ≡ d.ships = ships_keep_ships d (whole d.ships d.slots) ships in
    let keep : r.orders ≡ replicate (d.ships * d.ships) orders.Unset = ships_keep_orders d (whole d.ships d.slots) ships in
    let size : length r.orders ≡ r.ships * r.ships = ap length keep ∙ length-replicate (d.ships * d.ships) orders.Unset ∙ ap (λ n. n * n) (sym same) in
    let unset : order_of r v w ≡ orders.Unset =
    ap (λ n. order_of (record r { ships = n }) v w) same
    ∙ ap (λ os. order_of (record r { ships = d.ships; orders = os }) v w) keep
    ∙ get_or-replicate (d.ships * d.ships) (v * d.ships + w) orders.Unset orders.Unset (place_in v w d.ships l m) in
    ap (λ r. order_of r v w) (is_put d k ships ps c s)
    ∙ order_in d r ps v w size (let P : ℕ → Type 0 = λ n. PairsIn n ps in subst P (sym same) (climbing_in a b d.ships ps q)) (omega (arith, same, m)) unset i

-- 2. each literal speaks of the ships and pairs
speaks_range : (ships : List ℕ) (ps : List (ℕ × ℕ)) (v lo hi : ℕ) (b c : Bool) → In v ships → AllByRecursion (SpeaksOf ships ps) ((if b then AtOrAfter v (hi + 1) ∷ [] else []) ++ (if c then Before v lo ∷ [] else []))
speaks_range ships ps v lo hi true true i = (i, (i, tt))
speaks_range ships ps v lo hi true false i = (i, tt)
speaks_range ships ps v lo hi false true i = (i, tt)
speaks_range ships ps v lo hi false false i = tt

speaks_order : (ships : List ℕ) (ps : List (ℕ × ℕ)) (v w : ℕ) (o : Order) → In (v, w) ps → AllByRecursion (SpeaksOf ships ps) (order_lits v w o)
speaks_order ships ps v w orders.Unset i = tt
speaks_order ships ps v w orders.First i = (i, tt)
speaks_order ships ps v w orders.NotFirst i = (i, tt)

joined : {X : Type 0} (P : X → Type 0) (xs ys : List X) → AllByRecursion P xs → AllByRecursion P ys → AllByRecursion P (xs ++ ys)
joined P [] ys a b = b
joined P (x ∷ xs) ys a b = (a.0, joined P xs ys a.1 b)

all_of_each : {X Y : Type 0} (P : Y → Type 0) (g : X → List Y) (xs : List X) → ((x : X) → In x xs → AllByRecursion P (g x)) → AllByRecursion P (flat_map g xs)
all_of_each P g [] h = tt
all_of_each P g (x ∷ xs) h = joined P (g x) (flat_map g xs) (h x (inl refl)) (all_of_each P g xs (λ y i. h y (inr i)))

pub speaks : (d : RoomModel) (ships : List ℕ) (ps : List (ℕ × ℕ)) → AllByRecursion (SpeaksOf ships ps) (plain d ships ps)
speaks d ships ps =
    joined (SpeaksOf ships ps) (flat_map (ship_lits d) ships) (flat_map (pair_lits d) ps)
    (all_of_each (SpeaksOf ships ps) (ship_lits d) ships (λ v i. speaks_range ships ps v (low_of d v) (high_of d v) (nat_lt (high_of d v + 1) d.slots) (nat_lt 0 (low_of d v)) i))
    (all_of_each (SpeaksOf ships ps) (pair_lits d) ps (λ p i. speaks_order ships ps p.0 p.1 (order_of d p.0 p.1) i))

-- .. and fits
abbrev Fits : ℕ → ℕ → ℕ → Lit → Type 0
Fits n slots m lit = lit_fits (record { ships = n; slots = slots; rules = m }) lit ≡ true

bound_fits : (n slots v k : ℕ) → v < n → 1 ≤ k → k < slots → (nat_lt v n && (nat_le 1 k && nat_lt k slots)) ≡ true
bound_fits n slots v k p q r = and_from _ _ (lt-ltb v n p) (and_from _ _ (le-leb 1 k q) (lt-ltb k slots r))

fits_range : (n slots m v lo hi : ℕ) (b c : Bool) → (b ≡ true → hi + 1 < slots) → (c ≡ true → 0 < lo) → v < n → lo < slots → AllByRecursion (Fits n slots m) ((if b then AtOrAfter v (hi + 1) ∷ [] else []) ++ (if c then Before v lo ∷ [] else []))
fits_range n slots m v lo hi true true p q l h = (bound_fits n slots v (hi + 1) l (omega arith) (p refl), (bound_fits n slots v lo l (omega (arith, q refl)) h, tt))
fits_range n slots m v lo hi true false p q l h = (bound_fits n slots v (hi + 1) l (omega arith) (p refl), tt)
fits_range n slots m v lo hi false true p q l h = (bound_fits n slots v lo l (omega (arith, q refl)) h, tt)
fits_range n slots m v lo hi false false p q l h = tt

fits_order : (n slots m v w : ℕ) (o : Order) → v < w → w < n → AllByRecursion (Fits n slots m) (order_lits v w o)
fits_order n slots m v w orders.Unset l h = tt
fits_order n slots m v w orders.First l h = (and_from _ _ (lt-ltb v w l) (lt-ltb w n h), tt)
fits_order n slots m v w orders.NotFirst l h = (and_from _ _ (lt-ltb v w l) (lt-ltb w n h), tt)

pub ship_in : (x n : ℕ) (ships : List ℕ) (v : ℕ) → Climb x n ships → In v ships → v < n
ship_in x n [] v c i = absurd i
ship_in x n (u ∷ us) v c (inl e) = omega (arith, c.1, e)
ship_in x n (u ∷ us) v c (inr i) = ship_in (u + 1) n us v c.2 i

pub pair_in : (a b n : ℕ) (ps : List (ℕ × ℕ)) (v w : ℕ) → ClimbPairs a b n ps → In (v, w) ps → (v < w) × (w < n)
pair_in a b n [] v w q i = absurd i
pair_in a b n (p ∷ ps) v w q (inl e) = (omega (arith, q.1, ap (λ (x : ℕ × ℕ). x.0) e, ap (λ (x : ℕ × ℕ). x.1) e), omega (arith, q.2, ap (λ (x : ℕ × ℕ). x.1) e))
pair_in a b n (p ∷ ps) v w q (inr i) = pair_in p.0 p.1 n ps v w q.3 i

fits_all : (d : RoomModel) (m : ℕ) (ships : List ℕ) (a b : ℕ) (ps : List (ℕ × ℕ)) → Climb 0 d.ships ships → ClimbPairs a b d.ships ps → ((v : ℕ) → v < d.ships → low_of d v < d.slots) → AllByRecursion (Fits d.ships d.slots m) (plain d ships ps)
fits_all d m ships a b ps c q low =
    joined (Fits d.ships d.slots m) (flat_map (ship_lits d) ships) (flat_map (pair_lits d) ps)
    (all_of_each (Fits d.ships d.slots m) (ship_lits d) ships (λ v i.
    let l : v < d.ships = ship_in 0 d.ships ships v c i in
    fits_range d.ships d.slots m v (low_of d v) (high_of d v) (nat_lt (high_of d v + 1) d.slots) (nat_lt 0 (low_of d v)) (λ e. ltb-true _ _ e) (λ e. ltb-true _ _ e) l (low v l)))
    (all_of_each (Fits d.ships d.slots m) (pair_lits d) ps (λ p i.
    let k = pair_in a b d.ships ps p.0 p.1 q i in fits_order d.ships d.slots m p.0 p.1 (order_of d p.0 p.1) k.0 k.1))

is_clause : (shape : Shape) (place : ℕ) (before : Option Lit) (lits : List Lit) → AllByRecursion (λ lit. lit_fits shape lit ≡ true) lits → normal_after before lits ≡ true → first_bad_from shape place before lits ≡ None
is_clause shape place before [] fits normal = refl
is_clause shape place before (lit ∷ lits) fits normal =
    let parts = and_parts (keeps_form before lit) (normal_after (Some lit) lits) normal in
    good_from (lit_fits shape lit) (keeps_form before lit) (out_of_range place) (not_normal place) (first_bad_from shape (place + 1) (Some lit) lits) fits.0 parts.0
    (is_clause shape (place + 1) (Some lit) lits fits.1 parts.1)

-- the plain explanation of a room is a normal clause
pub plain_is_normal : (d : RoomModel) (ships : List ℕ) (ps : List (ℕ × ℕ)) → IsRoom d → Climb 0 d.ships ships → ClimbPairs 0 0 d.ships ps → IsNormal (plain d ships ps)
plain_is_normal d ships ps room c q =
    let fits : (v : ℕ) → v < d.ships → high_of d v < d.slots = λ v l. room.in_slots v (0, 0) (omega (arith, room.each_ship, l)) in
    let ordered : (v : ℕ) → v < d.ships → low_of d v ≤ high_of d v = λ v l. room.ordered v (0, 0) (omega (arith, room.each_ship, l)) in
    let many : d.slots ≤ 2 ^ 32 = omega (arith, room.few_slots) in
    clause_wider (shape_at d 0) widest_shape (plain d ships ps) room.few many
    (is_clause (shape_at d 0) 0 None (plain d ships ps) (fits_all d 0 ships 0 0 ps c q (λ v l. omega (arith, ordered v l, fits v l))) (plain_normal d 0 d.ships 0 0 d.ships ships ps c q ordered))

-- counts as tests
abbrev one_if : Bool → ℕ
one_if b = cond b 1 0

none_here : {X : Type 0} (f : X → Bool) (x : X) (xs : List X) (b : Bool) → f x ≡ b → count_by f (x ∷ xs) ≡ 0 → (count_by f xs ≡ 0 → list_any f xs ≡ false) → list_any f (x ∷ xs) ≡ false
none_here f x xs true t e rest = absurd (omega (arith, e, sum_by-cons (λ y. cond (f y) 1 0) x xs, ap one_if t))
none_here f x xs false t e rest = ap (λ b. b || list_any f xs) t ∙ rest (omega (arith, e, sum_by-cons (λ y. cond (f y) 1 0) x xs))

none_any : {X : Type 0} (f : X → Bool) (xs : List X) → count_by f xs ≡ 0 → list_any f xs ≡ false
none_any f [] e = refl
none_any f (x ∷ xs) e = none_here f x xs (f x) refl e (none_any f xs)

-- 3. all of it: what the plain explanation of a refuted room that explains is worth
pub explanation : (refutes : RoomModel → Type 0) (shape : Shape) (edge : Edge) (r d : RoomModel) (ships : List ℕ) (a b : ℕ) (ps : List (ℕ × ℕ)) → d.ships ≡ shape.ships → d.slots ≡ shape.slots → IsRoom d → Explains edge r d → Climb 0 d.ships ships → ClimbPairs a b d.ships ps
    → IsLocal refutes ships ps → refutes d → (IsQuiet refutes r → ⊥) → IsExplanation refutes shape ships ps r (plain d ships ps)
explanation refutes shape edge r d ships a b ps e1 e2 room x c q local ref loud =
    let fits : (v : ℕ) → v < d.ships → high_of d v < d.slots = λ v l. room.in_slots v (0, 0) (omega (arith, room.each_ship, l)) in
    let ordered : (v : ℕ) → v < d.ships → low_of d v ≤ high_of d v = λ v l. room.ordered v (0, 0) (omega (arith, room.each_ship, l)) in
    let same : shape_at d shape.rules ≡ shape =
    ap (λ n. shape_by n d.slots shape.rules) e1 ∙ ap (λ n. shape_by shape.ships n shape.rules) e2 in
    subst (λ s. IsExplanation refutes s ships ps r (plain d ships ps)) same
    (record {
      normal = is_clause (shape_at d shape.rules) 0 None (plain d ships ps) (fits_all d shape.rules ships a b ps c q (λ v l. omega (arith, ordered v l, fits v l))) (plain_normal d 0 d.ships a b d.ships ships ps c q ordered);
      refuted = local d (denied (shape_at d shape.rules) (plain d ships ps)) (λ u i. denied_range d shape.rules ships ps u c fits i)
          (λ v w i. let k = pair_in a b d.ships ps v w q i in denied_order d shape.rules ships a b ps v w c fits q k.0 k.1 i) ref;
      active = (
        none_any (lit_true r) (plain d ships ps) (none_true edge r d x a b d.ships ships ps q (omega (arith, x.same_ships))),
        omega (arith, length-filter (lit_free r) (plain d ships ps), one_free edge r d x 0 d.ships a b d.ships ships ps c q (omega (arith, x.same_ships))),
      );
      speaks = speaks d ships ps;
      loud = loud;
    })

-- 4. for a source that speaks of these ships and pairs
pub is_local : (f : Problem) (source : Source) (best : Option ℕ) (ships : List ℕ) (pairs : List (ℕ × ℕ)) → IsFlat f → SpokenOf f source ships pairs → IsLocal (Refutes f source best) ships pairs
is_local f source best ships pairs flat spoken d e ranges orders_same ref =
    alike_refutes f source best d e flat (record {
      lows = λ ship n. ap (λ (p : ℕ × ℕ). p.0) (ranges ship (spoken.each_named ship n));
      highs = λ ship n. ap (λ (p : ℕ × ℕ). p.1) (ranges ship (spoken.each_named ship n));
      orders = λ v w n. orders_same v w (spoken.each_pair v w n);
    }) ref

names_of : (f : Problem) (source : Source) (ships : List ℕ) (pairs : List (ℕ × ℕ)) (lit : Lit) → SpokenOf f source ships pairs → SpeaksOf ships pairs lit → IsTrue (names_lit f source lit)
names_of f source ships pairs (AtOrAfter v k) spoken i = spoken.named v i
names_of f source ships pairs (Before v k) spoken i = spoken.named v i
names_of f source ships pairs (lits.First v w) spoken i = spoken.pair_named v w i
names_of f source ships pairs (lits.NotFirst v w) spoken i = spoken.pair_named v w i

only_of : (f : Problem) (source : Source) (ships : List ℕ) (pairs : List (ℕ × ℕ)) (clause : List Lit) → SpokenOf f source ships pairs → AllByRecursion (SpeaksOf ships pairs) clause → SpeaksOnlyOf f source clause
only_of f source ships pairs [] spoken all = All-nil (λ lit. IsTrue (names_lit f source lit))
only_of f source ships pairs (lit ∷ more) spoken all = All-cons (λ lit. IsTrue (names_lit f source lit)) lit more (names_of f source ships pairs lit spoken all.0) (only_of f source ships pairs more spoken all.1)

if_named : {Z : Type 0} (b : Bool) → (b ≡ true → Z) → (b ≡ false → Z) → Z
if_named true p q = p refl
if_named false p q = q refl

-- quiet by what it speaks of is quiet at every ship and every open pair
pub quiet_all : (f : Problem) (source : Source) (best : Option ℕ) (room : RoomModel) → IsFlat f → IsSourceOf f source → RoomFits f room → QuietSource f source best room → IsQuiet (Refutes f source best) room
quiet_all f source best room flat of fits quiet reductions.Here i h = quiet.here h
quiet_all f source best room flat of fits quiet (reductions.Lowest ship) i h = quiet.at_low ship (omega (arith, i, fits.same_ships)) h
quiet_all f source best room flat of fits quiet (reductions.Highest ship) i h = quiet.at_high ship (omega (arith, i, fits.same_ships)) h
quiet_all f source best room flat of fits quiet (reductions.First v w) i h =
    if_named (names_order f source v w) (λ named. quiet.set_first v w i.0 (omega (arith, i.1, fits.same_ships)) named i.2 h)
    (λ none. quiet.here (alike_refutes f source best (cut (lits.First v w) room) room flat (back f source room (cut (lits.First v w) room) (cut_alike f source room (lits.First v w) flat of fits (i.0, i.1) none)) h))
quiet_all f source best room flat of fits quiet (reductions.NotFirst v w) i h =
    if_named (names_order f source v w) (λ named. quiet.set_not_first v w i.0 (omega (arith, i.1, fits.same_ships)) named i.2 h)
    (λ none. quiet.here (alike_refutes f source best (cut (lits.NotFirst v w) room) room flat (back f source room (cut (lits.NotFirst v w) room) (cut_alike f source room (lits.NotFirst v w) flat of fits (i.0, i.1) none)) h))

pub of_source : (f : Problem) (source : Source) (best : Option ℕ) (ships : List ℕ) (pairs : List (ℕ × ℕ)) (room : RoomModel) (clause : List Lit) → IsFlat f → IsSourceOf f source → RoomFits f room → SpokenOf f source ships pairs
    → IsExplanation (Refutes f source best) (shape_of f) ships pairs room clause → Explanation f source best room clause
of_source f source best ships pairs room clause flat of fits spoken x = record {
  normal = x.normal;
  refuted = x.refuted;
  active = x.active;
  speaks = only_of f source ships pairs clause spoken x.speaks;
  loud = λ quiet. x.loud (quiet_all f source best room flat of fits quiet);
}

pub quiet_of : (f : Problem) (source : Source) (best : Option ℕ) (room : RoomModel) → room.ships ≡ f.ships → IsQuiet (Refutes f source best) room → QuietSource f source best room
quiet_of f source best room same quiet = record {
  here = λ h. quiet reductions.Here tt h;
  at_low = λ ship lt h. quiet (reductions.Lowest ship) (omega (arith, lt, same)) h;
  at_high = λ ship lt h. quiet (reductions.Highest ship) (omega (arith, lt, same)) h;
  set_first = λ v w lt wn named unset h. quiet (reductions.First v w) (lt, omega (arith, wn, same), unset) h;
  set_not_first = λ v w lt wn named unset h. quiet (reductions.NotFirst v w) (lt, omega (arith, wn, same), unset) h;
}

pub finds_of : (f : Problem) (source : Source) (best : Option ℕ) (ships : List ℕ) (pairs : List (ℕ × ℕ)) (room : RoomModel) (found : Found) → IsFlat f → IsSourceOf f source → RoomFits f room → SpokenOf f source ships pairs
    → FindsBy (Refutes f source best) (shape_of f) ships pairs room found → Finds f source best room found
finds_of f source best ships pairs room founds.Quiet flat of fits spoken quiet = quiet_of f source best room fits.same_ships quiet
finds_of f source best ships pairs room (founds.Clause clause) flat of fits spoken x = of_source f source best ships pairs room clause flat of fits spoken x
