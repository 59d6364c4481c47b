-- How many lines a legend fills.
use Rattle.std.proofs.Common.{◌≡◌, ◌≤◌, ◌+◌, ◌++◌, ℕ, nat_lt, List, [], ◌∷◌, refl, subst, sym, arith}
use Rattle.std.proofs.lemmas.Bool.{cond_both}
use Rattle.hw_chart.specs.declared.legend.LegendPlace.{LegendPlace}
use Rattle.hw_chart.specs.Legends.{LegendEntry, place_of_entry, entry_width, legend_begin, legend_width, next_place, place_after_all, place_beside}

-- an entry that has room stands where it might begin
roomy : (at : LegendPlace) (width : ℕ) → at.x + width ≤ 1268 → place_of_entry at width ≡ at
roomy at width fits = cond_both (nat_lt 1268 (at.x + width)) _ _ (λ (p : LegendPlace). p ≡ at) (λ e. absurd (grind (arith, e, fits))) (λ e. refl)

-- on one line
record OneLine (at end : LegendPlace) : Type 0 where
  pub line : end.y ≡ at.y

one_line : (at : LegendPlace) (es : List LegendEntry) → at.x + legend_width es ≤ 1280 → OneLine at (place_after_all at es)
one_line at [] fits = record { line = refl }
one_line at (e ∷ es) fits = cond_both e.stands _ _ (λ (p : LegendPlace). OneLine at (place_after_all p es))
    (λ stands.
    let same : place_of_entry at (entry_width e) ≡ at = roomy at (entry_width e) (omega (arith, fits)) in
    let next : LegendPlace = place_beside at (entry_width e) in
    let rest : OneLine next (place_after_all next es) = one_line next es (omega (arith, fits)) in
    subst (λ (p : LegendPlace). OneLine at (place_after_all (place_beside p (entry_width e)) es)) (sym same) (record { line = rest.line }))
    (λ out. one_line at es (omega (arith, fits)))

-- on this line and the next
record NextLine (at end : LegendPlace) : Type 0 where
  pub line : end.y ≤ at.y + 16

next_line : (at : LegendPlace) (es : List LegendEntry) → at.x ≤ 1280 → legend_width es ≤ 1264 → NextLine at (place_after_all at es)
next_line at [] here fits = record { line = omega arith }
next_line at (e ∷ es) here fits = cond_both e.stands _ _ (λ (p : LegendPlace). NextLine at (place_after_all p es))
    (λ stands. cond_both (nat_lt 1268 (at.x + entry_width e)) _ _ (λ (p : LegendPlace). NextLine at (place_after_all (place_beside p (entry_width e)) es))
    (λ over.
    let below : LegendPlace = record { x = 16 + entry_width e + 12; y = at.y + 16 } in
    let rest : OneLine below (place_after_all below es) = one_line below es (omega (arith, fits)) in
    let line = rest.line in
    record { line = omega (arith, line) })
    (λ within.
    let next : LegendPlace = place_beside at (entry_width e) in
    let inside : at.x + entry_width e ≤ 1268 = grind (arith, within) in
    let rest : NextLine next (place_after_all next es) = next_line next es (omega (arith, inside)) (omega (arith, fits)) in
    record { line = rest.line }))
    (λ out. next_line at es here (omega (arith, fits)))

after_both : (at : LegendPlace) (a b : List LegendEntry) → place_after_all at (a ++ b) ≡ place_after_all (place_after_all at a) b
after_both at [] b = refl
after_both at (e ∷ a) b = after_both (next_place at e) a b

-- the place after entries that fit a line lies inside it
record Inside (end : LegendPlace) : Type 0 where
  pub x : end.x ≤ 1280

inside_line : (at : LegendPlace) (es : List LegendEntry) → at.x + legend_width es ≤ 1280 → Inside (place_after_all at es)
inside_line at [] fits = record { x = omega (arith, fits) }
inside_line at (e ∷ es) fits = cond_both e.stands _ _ (λ (p : LegendPlace). Inside (place_after_all p es))
    (λ stands.
    let same : place_of_entry at (entry_width e) ≡ at = roomy at (entry_width e) (omega (arith, fits)) in
    subst (λ (p : LegendPlace). Inside (place_after_all (place_beside p (entry_width e)) es)) (sym same) (inside_line (place_beside at (entry_width e)) es (omega (arith, fits))))
    (λ out. inside_line at es (omega (arith, fits)))

pub two_lines : (first second : List LegendEntry) → legend_width first ≤ 1264 → legend_width second ≤ 1264 → (place_after_all legend_begin (first ++ second)).y ≤ 85
two_lines first second f g =
    let middle : LegendPlace = place_after_all legend_begin first in
    let one = (one_line legend_begin first (omega (arith, f))).line in
    let inside = (inside_line legend_begin first (omega (arith, f))).x in
    let two = (next_line middle second inside g).line in
    rw (after_both legend_begin first second) (omega (arith, one, two))
