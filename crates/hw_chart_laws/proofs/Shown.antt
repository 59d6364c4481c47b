-- What an element shows, read back from its text.
use Rattle.std.proofs.Common.{◌≡◌, ◌≤◌, ◌<◌, ◌+◌, ◌/◌, ◌%◌, ◌^◌, ◌++◌, ◌∙◌, ℕ, List, [], ◌∷◌, codes, decimal, drop, get_or, refl, ap, sym, arith, append_assoc, append-nil}
use Rattle.std.proofs.lemmas.List.{append_cancel_left, append_cancel_right}
use Rattle.std.proofs.lemmas.Fmt.{decimal_digit}
use Rattle.hw_chart_svg.specs.Figures.{steps, steps_begin, steps_path}
use Rattle.hw_chart_svg.specs.Lettering.{line, text_begin}
use Rattle.hw_chart_svg.specs.Numbers.{metres}
use Rattle.hw_chart_svg.specs.Shapes.{area_path, block, shape_begin}
use Rattle.hw_chart_svg.specs.declared.area.Area.{Area}
use Rattle.hw_chart_svg.proofs.ReadBack.{moves_back}
use Rattle.hw_chart_laws.proofs.Reading.{number_parted}

-- ---- lines

spread_line : (a c b x d y q o t e : List ℕ) → (a ++ (c ++ (b ++ (x ++ (d ++ (y ++ (q ++ []))))))) ++ (o ++ (t ++ (e ++ []))) ≡ (a ++ (c ++ (b ++ (x ++ d)))) ++ (y ++ (q ++ (o ++ (t ++ e))))
spread_line a c b x d y q o t e = simp (append_assoc, append-nil)

line_is : (class : List ℕ) (x y : ℕ) (text : List ℕ) → line class x y text ≡ (codes "<text class=\"" ++ (class ++ (codes "\" x=\"" ++ (decimal x ++ codes "\" y=\"")))) ++ (decimal y ++ 34 ∷ (62 ∷ (text ++ codes "</text>\n")))
unfolding text_begin
line_is class x y text = spread_line (codes "<text class=\"") class (codes "\" x=\"") (decimal x) (codes "\" y=\"") (decimal y) (codes "\"") (codes ">") text (codes "</text>\n")

-- the words of a line
pub line_back : (class : List ℕ) (x y z : ℕ) (text other : List ℕ) → y < 2 ^ 64 → z < 2 ^ 64 → line class x y text ≡ line class x z other → text ≡ other
line_back class x y z text other p q e =
    let begin : List ℕ = codes "<text class=\"" ++ (class ++ (codes "\" x=\"" ++ (decimal x ++ codes "\" y=\""))) in
    let placed = append_cancel_left begin (decimal y ++ 34 ∷ (62 ∷ (text ++ codes "</text>\n"))) (decimal z ++ 34 ∷ (62 ∷ (other ++ codes "</text>\n"))) (sym (line_is class x y text) ∙ e ∙ line_is class x z other) in
    let said = number_parted y z 34 (62 ∷ (text ++ codes "</text>\n")) (62 ∷ (other ++ codes "</text>\n")) refl p q placed in
    append_cancel_right text other (codes "</text>\n") (ap (drop 1) said.1)

-- metres
digits_are : (a b : ℕ) (x : List ℕ) → a < 10 → b < 10 → decimal a ++ (decimal b ++ x) ≡ (48 + a) ∷ ((48 + b) ∷ x)
digits_are a b x p q = rw (decimal_digit a p, decimal_digit b q) refl

digits_back : (a b c d : ℕ) (x y : List ℕ) → a < 10 → b < 10 → c < 10 → d < 10 → decimal a ++ (decimal b ++ x) ≡ decimal c ++ (decimal d ++ y) → (a ≡ c) × (b ≡ d)
digits_back a b c d x y p q r s e =
    let same : (48 + a) ∷ ((48 + b) ∷ x) ≡ (48 + c) ∷ ((48 + d) ∷ y) = sym (digits_are a b x p q) ∙ e ∙ digits_are c d y r s in
    let first : 48 + a ≡ 48 + c = ap (λ (l : List ℕ). get_or l 0 0) same in
    let second : 48 + b ≡ 48 + d = ap (λ (l : List ℕ). get_or l 1 0) same in
    (omega (arith, first), omega (arith, second))

spread_metres : (a o b c x : List ℕ) → (a ++ (o ++ (b ++ (c ++ [])))) ++ x ≡ a ++ (o ++ (b ++ (c ++ x)))
spread_metres a o b c x = simp (append_assoc, append-nil)

metres_is : (m : ℕ) (x : List ℕ) → metres m ++ x ≡ decimal (m / 100) ++ 46 ∷ (decimal (m / 10 % 10) ++ (decimal (m % 10) ++ x))
unfolding metres
metres_is m x = spread_metres (decimal (m / 100)) (codes ".") (decimal (m / 10 % 10)) (decimal (m % 10)) x

same_digits : (m n : ℕ) → m / 100 ≡ n / 100 → m / 10 % 10 ≡ n / 10 % 10 → m % 10 ≡ n % 10 → m ≡ n
same_digits m n p q r = omega (arith, p, q, r)

pub metres_back : (m n : ℕ) (x y : List ℕ) → m < 2 ^ 64 → n < 2 ^ 64 → metres m ++ x ≡ metres n ++ y → m ≡ n
metres_back m n x y p q e =
    let whole = number_parted (m / 100) (n / 100) 46 (decimal (m / 10 % 10) ++ (decimal (m % 10) ++ x)) (decimal (n / 10 % 10) ++ (decimal (n % 10) ++ y)) refl (omega (arith, p)) (omega (arith, q)) (sym (metres_is m x) ∙ e ∙ metres_is n y) in
    let digits = digits_back (m / 10 % 10) (m % 10) (n / 10 % 10) (n % 10) x y (omega arith) (omega arith) (omega arith) (omega arith) whole.1 in
    same_digits m n whole.0 digits.0 digits.1

-- ---- shapes

-- the sides and the foot of an area
pub record SameSides (a b : Area) : Type 0 where
  pub left : a.left ≡ b.left
  pub right : a.right ≡ b.right
  pub bottom : a.bottom ≡ b.bottom

-- small enough to be written
pub record IsSmall (a : Area) : Type 0 where
  pub left : a.left < 2 ^ 64
  pub top : a.top < 2 ^ 64
  pub right : a.right < 2 ^ 64
  pub bottom : a.bottom < 2 ^ 64

abbrev after_bottom : Area → List ℕ
after_bottom a = decimal a.left ++ codes "z"

abbrev after_right : Area → List ℕ
after_right a = decimal a.bottom ++ 72 ∷ after_bottom a

abbrev after_top : Area → List ℕ
after_top a = decimal a.right ++ 86 ∷ after_right a

abbrev after_left : Area → List ℕ
after_left a = decimal a.top ++ 72 ∷ after_top a

area_is : (a : Area) → area_path a ≡ 77 ∷ (decimal a.left ++ 32 ∷ after_left a)
unfolding area_path
area_is a = refl

pub block_back : (class : List ℕ) (a b : Area) → IsSmall a → IsSmall b → block class a ≡ block class b → SameSides a b
block_back class a b p q e =
    let paths : area_path a ≡ area_path b = append_cancel_right (area_path a) (area_path b) (codes "\"/>\n") (append_cancel_left (shape_begin class) (area_path a ++ codes "\"/>\n") (area_path b ++ codes "\"/>\n") e) in
    let left = number_parted a.left b.left 32 (after_left a) (after_left b) refl p.left q.left (ap (drop 1) (sym (area_is a) ∙ paths ∙ area_is b)) in
    let top = number_parted a.top b.top 72 (after_top a) (after_top b) refl p.top q.top left.1 in
    let right = number_parted a.right b.right 86 (after_right a) (after_right b) refl p.right q.right top.1 in
    let bottom = number_parted a.bottom b.bottom 72 (after_bottom a) (after_bottom b) refl p.bottom q.bottom right.1 in
    record { left = left.0; right = right.0; bottom = bottom.0 }

-- the levels of a figure
pub figure_back : (class : List ℕ) (level other : ℕ → ℕ) (first count base begin many foot : ℕ) → ((k : ℕ) → level k < 2 ^ 64) → ((k : ℕ) → other k < 2 ^ 64) → first ≡ begin → count ≡ many → base ≡ foot → steps class level first count base ≡ steps class other begin many foot → (k : ℕ) → first ≤ k → k < first + count → level k ≡ other k
figure_back class level other first count base begin many foot f g a b c e =
    let here : steps class other begin many foot ≡ steps class other first count base = rw (a, b, c) refl in
    let paths = append_cancel_right (steps_path level first count base) (steps_path other first count base) (codes "\"/>\n") (append_cancel_left (shape_begin class) (steps_path level first count base ++ codes "\"/>\n") (steps_path other first count base ++ codes "\"/>\n") (e ∙ here)) in
    moves_back level other first count _ f g (append_cancel_left (steps_begin first base) _ _ paths)
