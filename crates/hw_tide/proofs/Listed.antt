-- Each text has a list of records.
use Rattle.std.proofs.Common.{◌≡◌, ℕ, zero, suc, ◌<◌, ◌≤◌, ◌++◌, ◌⊎◌, inl, inr, Bool, true, false, cond, List, [], ◌∷◌, length, Option, Some, None, refl, subst, arith}
use Rattle.std.proofs.lemmas.Option.{same_Some}
use Rattle.csv.specs.Machine.{Read, next_record, step, is_end, ends_at_end, fields_after, field_after}
use Rattle.csv.specs.Reading.{AreRecords, Reached}
use Rattle.csv.specs.declared.parser.Config.{Config}
use Rattle.csv.specs.declared.parser.State.{State}
use Rattle.csv.specs.declared.parser.State.TheVariants as st

-- after a record the text is shorter, or at its end
abbrev Shorter : List ℕ → Read → Type 0
Shorter text p = (length p.2 < length text) ⊎ ((p.1 ≡ st.StartRecord) × (p.2 ≡ []))

one_less : (c : ℕ) (rest : List ℕ) (p : Read) → Shorter rest p → Shorter (c ∷ rest) p
one_less c rest p (inl less) = inl (omega (arith, less))
one_less c rest p (inr end) = inr end

shrinks : (cfg : Config) (s : State) (fields : List (List ℕ)) (field text : List ℕ) (p : Read) → next_record cfg s fields field text ≡ Some p → Shorter text p
unfolding next_record
shrinks cfg s fields field [] p e = by (ends_at_end s) e
  where
    by : (b : Bool) → cond b (Some (fields ++ (field ∷ []), st.StartRecord, [])) None ≡ Some p → Shorter [] p
    by true e = let same = same_Some (fields ++ (field ∷ []), st.StartRecord, []) p e in subst (Shorter []) same (inr (refl, refl))
    by false e = absurd cc
shrinks cfg s fields field (c ∷ rest) p e = by (is_end (step cfg s c).1) (λ h. shrinks cfg (step cfg s c).0 (fields_after (step cfg s c).1 fields field) (field_after (step cfg s c).1 c field) rest p h) e
  where
    by : (b : Bool) → (next_record cfg (step cfg s c).0 (fields_after (step cfg s c).1 fields field) (field_after (step cfg s c).1 c field) rest ≡ Some p → Shorter rest p)
        → cond b (Some (fields_after (step cfg s c).1 fields field, (step cfg s c).0, rest)) (next_record cfg (step cfg s c).0 (fields_after (step cfg s c).1 fields field) (field_after (step cfg s c).1 c field) rest) ≡ Some p → Shorter (c ∷ rest) p
    by true more e = let same = same_Some (fields_after (step cfg s c).1 fields field, (step cfg s c).0, rest) p e in subst (Shorter (c ∷ rest)) same (inl (omega arith))
    by false more e = one_less c rest p (more e)

-- a record before those that follow it
pub one_before : (cfg : Config) (s : State) (text : List ℕ) (p : Read) (rows : List (List (List ℕ))) → next_record cfg s [] [] text ≡ Some p → AreRecords cfg p.1 p.2 rows → AreRecords cfg s text (p.0 ∷ rows)
unfolding Reached
one_before cfg s text p rows e rest = (rest.0, rest.1, (p, e, refl, rest.2), rest.3)

none_left : (cfg : Config) (s : State) (text : List ℕ) → next_record cfg s [] [] text ≡ None → AreRecords cfg s text []
unfolding Reached
none_left cfg s text e = (s, text, (refl, refl), e)

at_end : (cfg : Config) (p : Read) → (p.1 ≡ st.StartRecord) × (p.2 ≡ []) → AreRecords cfg p.1 p.2 []
unfolding next_record
at_end cfg p end = none_left cfg p.1 p.2 (rw (end.0, end.1) refl)

listed_up_to : (most : ℕ) (cfg : Config) (s : State) (text : List ℕ) → length text ≤ most → (rows : List (List (List ℕ))) × AreRecords cfg s text rows
listed_up_to zero cfg s text le = by (next_record cfg s [] [] text) refl
  where
    by : (o : Option Read) → next_record cfg s [] [] text ≡ o → (rows : List (List (List ℕ))) × AreRecords cfg s text rows
    by None e = ([], none_left cfg s text e)
    by (Some p) e = elim (shrinks cfg s [] [] text p e) [
      | inl less ↦ absurd (omega (arith, less, le))
      | inr end ↦ (p.0 ∷ [], one_before cfg s text p [] e (at_end cfg p end))
    ]
listed_up_to (suc most) cfg s text le = by (next_record cfg s [] [] text) refl (λ t x h. listed_up_to most cfg t x h)
  where
    by : (o : Option Read) → next_record cfg s [] [] text ≡ o → ((t : State) (x : List ℕ) → length x ≤ most → (rows : List (List (List ℕ))) × AreRecords cfg t x rows) → (rows : List (List (List ℕ))) × AreRecords cfg s text rows
    by None e more = ([], none_left cfg s text e)
    by (Some p) e more = elim (shrinks cfg s [] [] text p e) [
      | inl less ↦ let rest = more p.1 p.2 (omega (arith, less, le)) in (p.0 ∷ rest.0, one_before cfg s text p rest.0 e rest.1)
      | inr end ↦ (p.0 ∷ [], one_before cfg s text p [] e (at_end cfg p end))
    ]

-- from any state on, a text has a list of records
pub listed : (cfg : Config) (s : State) (text : List ℕ) → (rows : List (List (List ℕ))) × AreRecords cfg s text rows
listed cfg s text = listed_up_to (length text) cfg s text (omega arith)
