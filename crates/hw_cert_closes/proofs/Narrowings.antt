-- What narrowing a room finds has the problem's shape.
use Rattle.std.proofs.Common.{◌≡◌, ◌∙◌, ◌≤◌, ◌++◌, ◌∷◌, ℕ, List, [], Option, None, length, refl, sym, ap, subst, arith}
use Rattle.std.specs.Prelude.{All}
use Rattle.std.specs.List.{cons_option}
use Rattle.std.proofs.lemmas.List.Elements.{All-push}
use Rattle.hw_flat.specs.Opened.{shape_in}
use Rattle.hw_lits.proofs.Forms.{clause_lits, clause_wider}
use Rattle.hw_model.specs.declared.lit.Lit.{Lit}
use Rattle.hw_model.specs.declared.source.Source.{Source}
use Rattle.hw_model.specs.declared.source.Source.TheVariants as sources
use Rattle.hw_model.specs.Lits.{IsClause, IsLitOf}
use Rattle.hw_model.specs.Problem.{Problem, shape_of}
use Rattle.hw_model.specs.Refuting.{IsSourceOf}
use Rattle.hw_model.specs.Rooms.{RoomFits, RoomModel}
use Rattle.hw_cert_lines.specs.declared.line.Line.{Line}
use Rattle.hw_cert_lines.specs.declared.line.Line.TheVariants as lines
use Rattle.hw_cert_lines.specs.Lemmas.{lemma_of, lemmas_of}
use Rattle.hw_cert_lines.specs.Lines.{source_line}
use Rattle.hw_cert_lines.specs.Valid.{LineFits}
use Rattle.hw_cert_lines.proofs.Live.{lemmas_push}
use Rattle.hw_cert_closes.specs.Narrowings.{AreClosing, IsUnderWay}
use Rattle.hw_cert_closes.specs.declared.closing.Narrowing.{Narrowing}

-- a clause of the problem's shape speaks of the room's ships
pub room_lits : (f : Problem) (room : RoomModel) (clause : List Lit) → RoomFits f room → IsClause (shape_of f) clause → All (IsLitOf room.ships) clause
room_lits f room clause fits normal = subst (λ (n : ℕ). All (IsLitOf n) clause) (sym fits.same_ships) (clause_lits (shape_of f) clause normal)

-- the clause of a room of the problem is one of its shape
pub room_clause : (f : Problem) (room : RoomModel) (clause : List Lit) → RoomFits f room → IsClause (shape_in room) clause → IsClause (shape_of f) clause
room_clause f room clause fits normal =
    let ships : room.ships ≤ f.ships = omega (arith, fits.same_ships) in
    let slots : room.slots ≤ f.slots = omega (arith, fits.same_slots) in
    clause_wider (shape_in room) (shape_of f) clause ships slots normal

-- a source's line of a clause of the problem's shape is of that shape too, and no lemma
source_fits : (f : Problem) (source : Source) (clause : List Lit) → IsSourceOf f source → IsClause (shape_of f) clause → LineFits f (source_line f source clause) × (lemma_of (source_line f source clause) ≡ None)
source_fits f (sources.Window ship) clause of is = ((omega (arith, of), is), refl)
source_fits f (sources.Rule place) clause of is = ((omega (arith, of), is), refl)
source_fits f (sources.Order v w x) clause of is = ((of.0, of.1, of.2, is), refl)
source_fits f sources.Goal clause of is = (is, refl)

no_lemmas_push : (all : List Line) (line : Line) → lemmas_of all ≡ [] → lemma_of line ≡ None → lemmas_of (all ++ line ∷ []) ≡ []
no_lemmas_push all line none e = lemmas_push all line ∙ ap (λ (ls : List (List Lit)). ls ++ cons_option (lemma_of line) []) none ∙ ap (λ (o : Option (List Lit)). cons_option o []) e

-- a narrowing with one more such line
pub source_kept : (f : Problem) (before after : Narrowing) (source : Source) (clause : List Lit) (line : Line) → IsUnderWay f before → IsSourceOf f source → IsClause (shape_of f) clause → line ≡ source_line f source clause → after.room ≡ before.room → after.lines.items ≡ before.lines.items ++ line ∷ [] → IsUnderWay f after
source_kept f before after source clause line h of is same room lines =
    let line_is = source_fits f source clause of is in
    let fits : LineFits f line = subst (LineFits f) (sym same) line_is.0 in
    let none : lemma_of line ≡ None = ap lemma_of same ∙ line_is.1 in
    record {
      room = subst (RoomFits f) (sym room) h.room;
      fit = subst (λ (ls : List Line). All (LineFits f) ls) (sym lines) (All-push (LineFits f) before.lines.items line h.fit fits);
      no_lemma = ap lemmas_of lines ∙ no_lemmas_push before.lines.items line h.no_lemma none;
    }

-- lines without a lemma, and then one
pub concluded : (f : Problem) (all : List Line) (clause : List Lit) (hints : List ℕ) → All (LineFits f) all → lemmas_of all ≡ [] → IsClause (shape_of f) clause → AreClosing f (all ++ lines.Lemma clause hints ∷ [])
concluded f all clause hints fit none normal =
    let one : length (lemmas_of (all ++ lines.Lemma clause hints ∷ [])) ≡ 1 = ap length (lemmas_push all (lines.Lemma clause hints) ∙ ap (λ (ls : List (List Lit)). ls ++ clause ∷ []) none) in
    record { fit = All-push (LineFits f) all (lines.Lemma clause hints) fit normal; few = omega (arith, one) }
