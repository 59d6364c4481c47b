-- Words that spell a line, and words that are literals alone.
use Rattle.std.proofs.Common.{◌≡◌, ℕ, true, List, ◌∷◌, ◌++◌, map, Option, Some, None, sym, ap, ◌∙◌, append-nil}
use Rattle.std.specs.List.{list_all, flat_map}
use Rattle.hw_model.specs.declared.lit.Lit.{Lit}
use Rattle.hw_cert_lines.specs.declared.line.Line.{Line}
use Rattle.hw_cert.specs.declared.version.Version.{Version}
use Rattle.hw_cert.specs.Texts.{lit_text, line_words}
use Rattle.hw_cert.specs.Spelled.{Lits, lits_of, unparted, only_lits}
use Rattle.hw_cert.specs.Laws.{lit_numbers, line_numbers, wide_numbers, has_form, is_small, is_wide}
use Rattle.hw_cert.proofs.ReadBack.{chained, remainder_words, lits_back}

-- the words are those of the line, and its numbers are small
pub record Spells (version : Version) (kind : List ℕ) (words : List (List ℕ)) (line : Line) : Type 0 where
  pub words_are : kind ∷ words ≡ line_words line
  pub small : list_all is_small (line_numbers line) ≡ true
  pub wide : list_all is_wide (wide_numbers line) ≡ true
  pub formed : has_form version line ≡ true

pub only_back : (ws : List (List ℕ)) (ls : List Lit) → only_lits ws ≡ Some ls → (ws ≡ map lit_text ls) × (list_all is_small (flat_map lit_numbers ls) ≡ true)
only_back ws ls h =
    let p = chained (λ (found : Lits). unparted found.lits found.remainder) (lits_of ws) ls h in
    let r = lits_back ws p.0 p.1 in
    alone p.0.lits p.0.remainder p.2 r.words r.small
  where
    alone : (front : List Lit) (b : Option (List (List ℕ))) → unparted front b ≡ Some ls → ws ≡ map lit_text front ++ remainder_words b → list_all is_small (flat_map lit_numbers front) ≡ true → (ws ≡ map lit_text ls) × (list_all is_small (flat_map lit_numbers ls) ≡ true)
    alone front None e words small =
        let same : front ≡ ls = cc in
        (words ∙ append-nil (map lit_text front) ∙ ap (map lit_text) same, ap (λ (xs : List Lit). list_all is_small (flat_map lit_numbers xs)) (sym same) ∙ small)
    alone front (Some vs) e words small = absurd cc
