use Rattle.hw_trail_laws.proofs.Trails.{room_known, trail_story, room_end}
use Rattle.hw_trail_laws.proofs.laws.trail_tells.Goals as goal

pub returns : goal.returns
returns c = λ t is. record {
  story = trail_story t is;
  rooms = λ place le. (room_known t is place le).of.is_room;
  known = λ place le lit. ((room_known t is place le).into lit, (room_known t is place le).out lit);
  last = room_end t;
}
