-- A way through the nodes of a split keeps to the problem's shape.
use Rattle.std.proofs.Common.{◌≡◌, ◌∙◌, ◌++◌, ◌≤◌, ℕ, List, [], ◌∷◌, sym, subst, arith}
use Rattle.std.specs.Prelude.{All}
use Rattle.std.proofs.lemmas.List.Elements.{All-push}
use Rattle.hw_flat.specs.Opened.{shape_in}
use Rattle.hw_lits.proofs.Forms.{clause_wider}
use Rattle.hw_model.specs.declared.lit.Lit.{Lit}
use Rattle.hw_model.specs.Lits.{IsClause}
use Rattle.hw_model.specs.Problem.{Problem, shape_of}
use Rattle.hw_model.specs.Rooms.{IsRoom, RoomFits, RoomModel}
use Rattle.hw_cert_lines.specs.declared.line.Line.{Line}
use Rattle.hw_cert_lines.specs.declared.line.Line.TheVariants as lines
use Rattle.hw_cert_lines.specs.Valid.{LineFits}
use Rattle.hw_cert_join.specs.declared.forks.OpenFork.{OpenFork}

pub side_fits : (f : Problem) (room side : RoomModel) → RoomFits f room → IsRoom side → side.ships ≡ room.ships → side.slots ≡ room.slots → RoomFits f side
side_fits f room side fits is ships slots = record { is_room = is; same_ships = ships ∙ fits.same_ships; same_slots = slots ∙ fits.same_slots }

pub copy_fits : (f : Problem) (room copied : RoomModel) → copied ≡ room → RoomFits f room → RoomFits f copied
copy_fits f room copied same fits = subst (RoomFits f) (sym same) fits

pub forks_fit : (f : Problem) (forks after : List OpenFork) (fork : OpenFork) → after ≡ forks ++ fork ∷ [] → All (λ (fork : OpenFork). RoomFits f fork.room) forks → RoomFits f fork.room → All (λ (fork : OpenFork). RoomFits f fork.room) after
forks_fit f forks after fork same fit fits = subst (All (λ (fork : OpenFork). RoomFits f fork.room)) (sym same) (All-push (λ (fork : OpenFork). RoomFits f fork.room) forks fork fit fits)

-- the lemma of a fork's room
pub lemmas_fit : (f : Problem) (room : RoomModel) (lemmas after : List Line) (clause : List Lit) (hints : List ℕ) → after ≡ lemmas ++ lines.Lemma clause hints ∷ [] → All (LineFits f) lemmas → RoomFits f room → IsClause (shape_in room) clause → All (LineFits f) after
lemmas_fit f room lemmas after clause hints same fit fits normal =
    let ships : room.ships ≤ f.ships = omega (arith, fits.same_ships) in
    let slots : room.slots ≤ f.slots = omega (arith, fits.same_slots) in
    let fits_line : LineFits f (lines.Lemma clause hints) = clause_wider (shape_in room) (shape_of f) clause ships slots normal in
    subst (All (LineFits f)) (sym same) (All-push (LineFits f) lemmas (lines.Lemma clause hints) fit fits_line)
