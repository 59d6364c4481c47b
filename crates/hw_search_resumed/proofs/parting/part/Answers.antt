use Rattle.std.proofs.Common.{◌≡◌, ◌∙◌, false, true, ap, refl, sym}
use Rattle.std.proofs.lemmas.Result.{err_from_is_err_and}
use Rattle.hw_cert_course.proofs.Handed.{fit_as}
use Rattle.hw_cert_closes.specs.Closing.{closes_room}
use Rattle.hw_search_resumed.proofs.PartLines.{closing_stops, last_fit, search_stops, start_closes, start_is, went_on_in}
use Rattle.hw_search_resumed.proofs.parting.part.Goals as goal
use Rattle.hw_search_resumed.proofs.parting.part.Goals.{else-not-is_closed-via-then-not-is_closed+else-not-is_spent, else-not-is_closed-via-else-not-is_closed}

pub returns-then-is_room_closed : goal.returns-then-is_room_closed
returns-then-is_room_closed g c =
    let closes = c.is_room_closed.ensures in
    start_closes c.requires.stands refl refl (sym (ap (closes_room c.args.room.now) c.deref.ensures.value) ∙ sym closes ∙ c.if-is_room_closed.true)

pub hand_all-requires-clause-fit : goal.hand_all-requires-clause-fit
hand_all-requires-clause-fit g c = fit_as c.args.start.flat.now c.args.start.flat.now c.search-is_spent.result.1.items c.deref-4.result.now refl c.deref-4.ensures.value c.search-is_spent.ensures.fit

pub returns-in_err-course : goal.returns-in_err-course
returns-in_err-course g c =
    let p = err_from_is_err_and c.from_residual-in_err-course.result c.from_residual-in_err-course.ensures.1 in
    let unclosed = start_is c.args.room.now c.deref.result.now c.args.start.lines.items c.is_room_closed.result false c.is_room_closed.ensures c.deref.ensures.value c.if-is_room_closed.false in
    rw (p.1, p.2) (search_stops c.args.room.now c.in_err-course.field-0.0 c.requires.stands unclosed c.in_err-course.ensures)

pub returns-in_err-course-2 : goal.returns-in_err-course-2
returns-in_err-course-2 g c =
    let p = err_from_is_err_and c.from_residual-in_err-course-2.result c.from_residual-in_err-course-2.ensures.1 in
    let unclosed = start_is c.args.room.now c.deref.result.now c.args.start.lines.items c.is_room_closed.result false c.is_room_closed.ensures c.deref.ensures.value c.if-is_room_closed.false in
    rw (p.1, p.2) (closing_stops c.args.room.now c.in_err-course-2.field-0.0 c.requires.stands unclosed c.in_ok-course.ensures c.in_err-course-2.ensures)

pub is_room_closed-is_closed-requires-clause-fit : goal.is_room_closed-is_closed-requires-clause-fit
is_room_closed-is_closed-requires-clause-fit g c = last_fit c.deref-5.result.now c.requires.stands c.in_ok-course.ensures c.in_ok-course-2.ensures c.deref-5.ensures.value

pub returns : goal.returns
returns g c =
    let unclosed = start_is c.args.room.now c.deref.result.now c.args.start.lines.items c.is_room_closed.result false c.is_room_closed.ensures c.deref.ensures.value c.if-is_room_closed.false in
    let is : c.is_room_closed-is_closed.result ≡ closes_room c.args.room.now c.in_ok-course-2.course.lines.items = c.is_room_closed-is_closed.ensures ∙ ap (closes_room c.args.room.now) c.deref-5.ensures.value in
    let spent : c.is_room_closed-is_closed.result ≡ false → c.search-is_spent.result.0 ≡ true = λ e.
    elim c.else-not-is_closed.branch [
      | else-not-is_closed-via-then-not-is_closed+else-not-is_spent w ↦ (let h = w.if-not-is_spent in cc)
      | else-not-is_closed-via-else-not-is_closed w ↦ absurd (let h = w.if-not-is_closed in cc)
    ] in
    went_on_in c.requires.stands unclosed c.search-is_spent.ensures (rw c.deref-4.ensures.value at c.in_ok-course.ensures) c.in_ok-course-2.ensures refl is spent
