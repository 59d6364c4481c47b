-- The form that the place of a keyword chooses.
use Rattle.std.proofs.Common.{◌≡◌, ◌==◌, ℕ, List, Bool, true, false, Option, Some, None, refl, ap, sym, ◌∙◌, codes, bytes_eq, if◌then◌else◌}
use Rattle.hw_lexicon.specs.Words.{find_from}
use Rattle.hw_cert.specs.declared.version.Version.{Version}
use Rattle.hw_cert.specs.Keywords.{key_words}
use Rattle.hw_cert.specs.Spelled.{table_form, explain_form, order_form, goal_form, lemma_form, delete_form, narrows_form, tugs_form, tariff_form, priced_form, bound_form, form_of}

-- the one at a place
abbrev pub chosen : {A : Type 0} → Option A → Option A → Option A → Option A → Option A → Option A → Option A → Option A → Option A → Option A → Option A → Option ℕ → Option A
chosen t e o g l d n u y p b None = None
chosen t e o g l d n u y p b (Some place) = if place == 0 then t else if place == 1 then e else if place == 2 then o else if place == 3 then g else if place == 4 then l else if place == 5 then d else if place == 6 then n else if place == 7 then u else if place == 8 then y else if place == 9 then p else if place == 10 then b else None

chosen_first : {A : Type 0} (t e o g l d n u y p b : Option A) (is_t is_e is_o is_g is_l is_d is_n is_u is_y is_p is_b is_cert : Bool)
    → (if is_t then t else if is_e then e else if is_o then o else if is_g then g else if is_l then l else if is_d then d else if is_n then n else if is_u then u else if is_y then y else if is_p then p else if is_b then b else None)
    ≡ chosen t e o g l d n u y p b (if is_t then Some 0 else if is_e then Some 1 else if is_o then Some 2 else if is_g then Some 3 else if is_l then Some 4 else if is_d then Some 5 else if is_n then Some 6 else if is_u then Some 7 else if is_y then Some 8 else if is_p then Some 9 else if is_b then Some 10 else if is_cert then Some 11 else None)
chosen_first t e o g l d n u y p b true is_e is_o is_g is_l is_d is_n is_u is_y is_p is_b is_cert = refl
chosen_first t e o g l d n u y p b false true is_o is_g is_l is_d is_n is_u is_y is_p is_b is_cert = refl
chosen_first t e o g l d n u y p b false false true is_g is_l is_d is_n is_u is_y is_p is_b is_cert = refl
chosen_first t e o g l d n u y p b false false false true is_l is_d is_n is_u is_y is_p is_b is_cert = refl
chosen_first t e o g l d n u y p b false false false false true is_d is_n is_u is_y is_p is_b is_cert = refl
chosen_first t e o g l d n u y p b false false false false false true is_n is_u is_y is_p is_b is_cert = refl
chosen_first t e o g l d n u y p b false false false false false false true is_u is_y is_p is_b is_cert = refl
chosen_first t e o g l d n u y p b false false false false false false false true is_y is_p is_b is_cert = refl
chosen_first t e o g l d n u y p b false false false false false false false false true is_p is_b is_cert = refl
chosen_first t e o g l d n u y p b false false false false false false false false false true is_b is_cert = refl
chosen_first t e o g l d n u y p b false false false false false false false false false false true is_cert = refl
chosen_first t e o g l d n u y p b false false false false false false false false false false false true = refl
chosen_first t e o g l d n u y p b false false false false false false false false false false false false = refl

pub form_chosen : (version : Version) (kind : List ℕ) (words : List (List ℕ)) (place : Option ℕ) → place ≡ find_from 0 kind key_words
    → form_of version kind words ≡ chosen (table_form words) (explain_form words) (order_form words) (goal_form words) (lemma_form words) (delete_form version words) (narrows_form version words) (tugs_form version words) (tariff_form version words) (priced_form version words) (bound_form version words) place
form_chosen version kind words place found =
    chosen_first (table_form words) (explain_form words) (order_form words) (goal_form words) (lemma_form words) (delete_form version words) (narrows_form version words) (tugs_form version words) (tariff_form version words) (priced_form version words) (bound_form version words)
    (bytes_eq (codes "t") kind) (bytes_eq (codes "e") kind) (bytes_eq (codes "o") kind) (bytes_eq (codes "g") kind) (bytes_eq (codes "l") kind) (bytes_eq (codes "d") kind) (bytes_eq (codes "n") kind) (bytes_eq (codes "u") kind) (bytes_eq (codes "y") kind) (bytes_eq (codes "p") kind) (bytes_eq (codes "b") kind) (bytes_eq (codes "cert") kind)
    ∙ ap (chosen (table_form words) (explain_form words) (order_form words) (goal_form words) (lemma_form words) (delete_form version words) (narrows_form version words) (tugs_form version words) (tariff_form version words) (priced_form version words) (bound_form version words)) (sym found)
