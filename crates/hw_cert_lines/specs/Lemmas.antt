-- New lemmas, and lean lines.
use Rattle.std.specs.Prelude.{ℕ, List, [], ◌∷◌, ◌++◌, Option, Some, None, All, AllPairs, Any, Contains, filter_map, IsSomeAnd, ⊤}
use Rattle.hw_model.specs.declared.lit.Lit.{Lit}
use Rattle.hw_model.specs.declared.source.Source.TheVariants as sources
use Rattle.hw_model.specs.Problem.{Problem}
use Rattle.hw_model.specs.Rooms.{RoomWithin}
use Rattle.hw_model.specs.Refuting.{source_of}
use Rattle.hw_model.specs.Quiet.{SpeaksOnlyOf}
use Rattle.hw_cert_lines.specs.declared.line.Line.{Line}
use Rattle.hw_cert_lines.specs.declared.line.Line.TheVariants as lines
use Rattle.hw_cert_lines.specs.Lines.{clause_at}
use Rattle.hw_cert_lines.specs.Valid.{denied_room}

-- the clause of a lemma line
abbrev pub lemma_of : Line → Option (List Lit)
lemma_of (lines.Table table) = None
lemma_of (lines.Explain n clause) = None
lemma_of (lines.Order v w x clause) = None
lemma_of (lines.Goal clause) = None
lemma_of (lines.Lemma clause hints) = Some clause
lemma_of (lines.Delete ids) = None
lemma_of (lines.Toll toll) = None
lemma_of (lines.Tariff tariff) = None
lemma_of (lines.Priced clause) = None
lemma_of (lines.Bound bound) = None

-- the clauses of the lemma lines, in order
abbrev pub lemmas_of : List Line → List (List Lit)
lemmas_of all = filter_map lemma_of all

-- no lemma's denied room lies inside that of an earlier one
abbrev pub IsNew : Problem → List Line → Type 0
IsNew f all = AllPairs (λ earlier later. RoomWithin (denied_room f later) (denied_room f earlier) → ⊥) (lemmas_of all)

-- the literal is one of the clause of one of the hints
abbrev pub IsHinted : List Line → List ℕ → Lit → Type 0
IsHinted before hints lit = Any (λ id. IsSomeAnd (clause_at before id) (λ clause. Contains clause lit)) hints

-- the clause speaks only of what its source speaks of, or has literals of its hints alone
abbrev pub LeanAfter : Problem → List Line → Line → Type 0
LeanAfter f before (lines.Table table) = ⊤
LeanAfter f before (lines.Explain n clause) = SpeaksOnlyOf f (source_of f n) clause
LeanAfter f before (lines.Order v w x clause) = SpeaksOnlyOf f (sources.Order v w x) clause
LeanAfter f before (lines.Goal clause) = SpeaksOnlyOf f sources.Goal clause
LeanAfter f before (lines.Lemma clause hints) = All (IsHinted before hints) clause
LeanAfter f before (lines.Delete ids) = ⊤
LeanAfter f before (lines.Toll toll) = ⊤
LeanAfter f before (lines.Tariff tariff) = ⊤
LeanAfter f before (lines.Priced clause) = SpeaksOnlyOf f sources.Goal clause
LeanAfter f before (lines.Bound bound) = ⊤

-- each of these lines is lean after those before it, these ones first
abbrev pub LeanFrom : Problem → List Line → List Line → Type 0
LeanFrom f before [] = ⊤
LeanFrom f before (line ∷ more) = LeanAfter f before line × LeanFrom f (before ++ line ∷ []) more

-- a reason speaks only of what its source speaks of, and a lemma's literals are ones of its hints
abbrev pub IsLean : Problem → List Line → Type 0
IsLean f all = LeanFrom f [] all
