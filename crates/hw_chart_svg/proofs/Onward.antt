-- Figures and names, one step on.
use Rattle.std.proofs.Common.{◌≡◌, ◌≤◌, ◌<◌, ◌+◌, ◌-◌, ◌++◌, ℕ, suc, List, [], length, drop, get_or, add-one, ap, refl, arith}
use Rattle.std.proofs.Math.ListN.{drop_of_length-le}
use Rattle.std.proofs.Math.Seq.{drop-cons}
use Rattle.hw_chart_svg.specs.Figures.{move, moves}
use Rattle.hw_chart_svg.specs.Names.{byte_text, escaped}

pub moves_next : (level : ℕ → ℕ) (slot end : ℕ) → slot < end → moves level slot (end - slot) ≡ move slot (level slot) ++ moves level (slot + 1) (end - (slot + 1))
moves_next level slot end lt =
    let e : end - slot ≡ suc (end - (slot + 1)) = omega (arith, lt) in
    ap (moves level slot) e

pub moves_end : (level : ℕ → ℕ) (slot end : ℕ) → end ≤ slot → moves level slot (end - slot) ≡ []
moves_end level slot end le =
    let e : end - slot ≡ 0 = omega (arith, le) in
    ap (moves level slot) e

pub name_next : (name : List ℕ) (i d : ℕ) → i < length name → escaped (drop i name) ≡ byte_text (get_or name i d) ++ escaped (drop (i + 1) name)
name_next name i d lt = rw (add-one, drop-cons name i d lt) refl

pub name_end : (name : List ℕ) (i : ℕ) → length name ≤ i → escaped (drop i name) ≡ []
name_end name i le = ap escaped (drop_of_length-le name le)
