-- The laws of own lines that are handed on: they are valid where they come, and all pages stay tied.
use Rattle.std.specs.Prelude.{◌≡◌, ◌+◌, ◌^◌, ◌<◌, true, false, List, [], ◌∷◌, ◌++◌, Option, IfSome}
use Rattle.std.specs.List.{cons_option}
use Rattle.hw_model.specs.Problem.{Problem}
use Rattle.hw_cert_lines.specs.declared.line.Line.{Line}
use Rattle.hw_cert_lines.specs.Tolled.{is_plain}
use Rattle.hw_cert_lines.specs.Lines.{clause_of, clause_count, is_end, is_closed, best_of}
use Rattle.hw_cert_lines.specs.Valid.{LineFits, ValidAfter, Valid}
use Rattle.hw_cert_lines.specs.Lemmas.{lemma_of, lemmas_of, LeanAfter}
use Rattle.hw_cert_crews.specs.Pages.{Page, blank_page, handed, with_next_line, page_after, Tied, NumbersApart}

-- a page without lines is tied to any lines
abbrev pub BlankTied : Type 0
BlankTied = (f : Problem) (shared : List Line) → Tied f blank_page shared

-- what is handed on is plain, of the shape and valid where it comes, lean if the own line is, and the page with the line is tied to the lines with it
pub record Relayed (f : Problem) (page : Page) (shared : List Line) (line : Line) (next : Option Line) : Type 0 where
  pub plain : IfSome next (λ line. is_plain line ≡ true)
  pub fits : IfSome next (LineFits f)
  pub valid : IfSome next (ValidAfter f shared)
  pub lean : LeanAfter f page.lines line → IfSome next (LeanAfter f shared)
  pub tied : Tied f (page_after page (clause_count shared) line) (with_next_line shared next)

-- so it is with each plain line of the shape that is valid after the own ones
abbrev pub LineRelayed : Type 0
LineRelayed = (f : Problem) (page : Page) (shared : List Line) (line : Line) → Tied f page shared → Valid f shared → is_closed shared ≡ false → clause_count shared + 1 < 2 ^ 32 → is_plain line ≡ true → LineFits f line → ValidAfter f page.lines line
    → Relayed f page shared line (handed f (best_of f shared) page.numbers line)

-- another page stays tied, and has no number of the first one
pub record OtherKept (f : Problem) (page other : Page) (shared : List Line) (line : Line) (next : Option Line) : Type 0 where
  pub tied : Tied f other (with_next_line shared next)
  pub apart : NumbersApart (page_after page (clause_count shared) line) other

-- so it is with each other page where the line is plain and the two are apart before
abbrev pub OthersKept : Type 0
OthersKept = (f : Problem) (page other : Page) (shared : List Line) (line : Line) → Tied f page shared → Tied f other shared → NumbersApart page other → Valid f shared → is_plain line ≡ true → ValidAfter f page.lines line
    → OtherKept f page other shared line (handed f (best_of f shared) page.numbers line)

-- what a line that is handed on changes of counts, of lemmas and of the end
pub record Counted (f : Problem) (page : Page) (shared : List Line) (line : Line) (next : Option Line) : Type 0 where
  pub count : clause_count (with_next_line shared next) + clause_count page.lines ≡ clause_count shared + clause_count (page.lines ++ line ∷ [])
  pub lemmas : lemmas_of (with_next_line shared next) ≡ lemmas_of shared ++ cons_option (lemma_of line) []
  pub closed : is_closed shared ≡ false → is_closed (with_next_line shared next) ≡ is_end (clause_of line)

-- so it is with each line
abbrev pub LineCounted : Type 0
LineCounted = (f : Problem) (page : Page) (shared : List Line) (line : Line) → Counted f page shared line (handed f (best_of f shared) page.numbers line)
