-- A turn with advice, part by part.
use Rattle.std.proofs.Common.{◌≡◌, ℕ, ◌-◌, ◌<◌, ◌≤◌, false, List, [], Option, Some, None, All, Bor, IfSome, length, refl, sym, ap, ◌∙◌, subst, arith, append-nil}
use Rattle.std.proofs.lemmas.List.Elements.{All-nil}
use Rattle.std.specs.Option.{option_copied}
use Rattle.hw_model.specs.declared.lit.Lit.{Lit}
use Rattle.hw_model.specs.Problem.{Problem}
use Rattle.hw_model.specs.Rooms.{RoomModel, RoomFits, IsPoint}
use Rattle.hw_cert_lines.specs.Valid.{LineFits}
use Rattle.hw_cert_lines.specs.Lemmas.{IsNew}
use Rattle.hw_trail_laws.specs.declared.event.Why.{Why}
use Rattle.hw_trail_laws.specs.Trails.{most_events}
use Rattle.hw_cert.specs.Logs.{LogModel, WhereTold}
use Rattle.hw_price_laws.specs.declared.tariff.Tariff.{Tariff}
use Rattle.hw_price_laws.specs.declared.toll.Toll.{Toll}
use Rattle.hw_price_laws.specs.Tolls.{IsToll}
use Rattle.hw_price_laws.specs.Prices.{TariffFits}
use Rattle.hw_search_advice.specs.declared.adviser.Scene.{Scene}
use Rattle.hw_search_advice.specs.Advisers.{IsOpenIn, IsScene}
use Rattle.hw_search_laws.specs.declared.outcome.Settled.TheVariants.{Quiet, Conflict}
use Rattle.hw_search_laws.specs.declared.outcome.Turn.{Turn}
use Rattle.hw_search_laws.specs.declared.outcome.Turn.TheVariants as turns
use Rattle.hw_search_laws.specs.Searches.{SearchModel, IsSearch, LogFits, room_in}
use Rattle.hw_search_laws.specs.Settling.{AllQuiet, Implies, IsConflict, Settles}
use Rattle.hw_search_laws.specs.Turns.{TurnMeets}
use Rattle.hw_search_laws.specs.Advised.{HeedWrites, Heeds, FollowsAdvice}
use Rattle.hw_search_laws.proofs.Heeded.{heeds_none, heeds_both}
use Rattle.hw_search.specs.Faults.{TurnKeepsFaults}
use Rattle.hw_search_advised.specs.Heeding.{AdvisedTurn, HeedGains, HeedFails, RoundMeets}
use Rattle.hw_search.specs.Turning.{TurnBegins, Decides, TurnsFrom, decided_by}
use Rattle.hw_search_advised.proofs.Heedings.{heeds_fit, gains_on, same_problem}
use Rattle.hw_search.proofs.Answering.{mid_fits, decided_meets}
use Rattle.hw_search.proofs.Ending.{turned}
use Rattle.hw_search_ledger.proofs.Handed.{grows_none}
use Rattle.hw_search.proofs.Kept.{room_here, few_in}
use Rattle.hw_search.proofs.Steps.{implies_none}

-- ---- what an adviser sees

-- the room that it sees is one of the problem
pub room_seen : (s : SearchModel) (f : Problem) (room : RoomModel) → IsSearch s → f ≡ s.problem → room ≡ room_in s → RoomFits f room
room_seen s f room is p r = subst (λ g. RoomFits g room) (sym p) (subst (RoomFits s.problem) (sym r) (room_here s is))

-- the tariff that it sees is the one in force
tariff_seen : (n : ℕ) (seen : Option (Bor Tariff)) (p : Option Tariff) → option_copied seen ≡ p → IfSome p (TariffFits n) → IfSome seen (λ t. TariffFits n t.now)
tariff_seen n None p e h = tt
tariff_seen n (Some t) p e h = subst (λ o. IfSome o (TariffFits n)) (sym e) h

-- it may be shown what it sees
pub scene_seen : (s : SearchModel) (scene : Scene) → IsSearch s → scene.flat.now ≡ s.problem → scene.room.now ≡ room_in s → scene.tolls.now ≡ s.prices.tolls → option_copied scene.tariff ≡ s.prices.tariff → IsScene scene
scene_seen s scene is flat room tolls tariff = record {
  room_fits = room_seen s scene.flat.now scene.room.now is flat room;
  of_problem = subst (λ f. All (IsToll f) scene.tolls.now) (sym flat) (subst (All (IsToll s.problem)) (sym tolls) is.prices.tolls);
  few = subst (λ (ts : List Toll). length ts ≤ 10_000) (sym tolls) is.prices.few;
  tariff_fits = subst (λ (ts : List Toll). IfSome scene.tariff (λ t. TariffFits (length ts) t.now)) (sym tolls) (tariff_seen (length s.prices.tolls) scene.tariff s.prices.tariff tariff is.prices.tariff);
}

-- ---- after settling

-- events that settling implied are heeded too
pub settled_heeds : (s mid : SearchModel) (log : LogModel) → IsSearch s → Implies s mid → IsSearch mid → WhereTold log (λ told. LogFits told s) → Heeds s mid log log
settled_heeds s mid log is i kept fits = record {
  more = i.more;
  implied = i.implied;
  trail = ap (λ (x : SearchModel). x.trail) i.only;
  tolls = [];
  declared = ap (λ (x : SearchModel). x.prices.tolls) i.only ∙ sym (append-nil s.prices.tolls);
  same_bound = ap (λ (x : SearchModel). x.prices.bound) i.only;
  same = i.only ∙ sym (ap (λ (x : SearchModel). record s { trail = x.trail; written = x.written; prices = x.prices; clause_lines = x.clause_lines; priced = x.priced }) i.only);
  kept = kept;
  same_faults = refl;
  writes = grows_none log (HeedWrites s mid) (λ told. LogFits told s) (λ now fit. record {
    more = [];
    lines = sym (append-nil now.lines);
    good = record { fit = All-nil (LineFits s.problem); valid = tt; lean = tt; new = λ old. subst (IsNew s.problem) (sym (append-nil now.lines)) old };
    no_lemma = refl;
    few_live = tt;
    fits = mid_fits s mid now is i fit;
  }) fits;
}

-- ---- how a turn ends

-- it ends as a turn without advice
pub turn_ends : (s : SearchModel) (old : LogModel) (turn : Turn) (after : SearchModel) (new : LogModel) → IsSearch s → WhereTold old (λ told. LogFits told s) → TurnMeets s old turn after new → TurnKeepsFaults turn old new → AdvisedTurn s old turn after new
turn_ends s old turn after new is fits t k = record { meets = record { mid = s; then = old; heeds = heeds_none s old is fits; follows = FollowsAdvice.by_turn t }; kept = k }

begins : (s : SearchModel) (old : LogModel) → IsSearch s → s.over ≡ false → s.lemmas < 100000 → WhereTold old (λ told. LogFits told s) → TurnBegins s old
begins s old is going few fits = record { kept = is; going = going; few = few; fits = fits }

-- after a conflict
pub conflict_ends : (s : SearchModel) (old : LogModel) (why : Why) (turn : Turn) (after : SearchModel) (new : LogModel) → IsSearch s → s.over ≡ false → s.lemmas < 100000 → WhereTold old (λ told. LogFits told s) → IsConflict s why → TurnsFrom (Conflict why) s old turn after new → TurnKeepsFaults turn old new → AdvisedTurn s old turn after new
conflict_ends s old why turn after new is going few fits c t k =
    turn_ends s old turn after new is fits (t s (begins s old is going few fits) (record { implies = implies_none s; kept = is; ends = c })) k

-- at a point
pub point_ends : (s : SearchModel) (old : LogModel) (turn : Turn) (after : SearchModel) (new : LogModel) → IsSearch s → s.over ≡ false → s.lemmas < 100000 → WhereTold old (λ told. LogFits told s) → AllQuiet s → TurnsFrom Quiet s old turn after new → TurnKeepsFaults turn old new → AdvisedTurn s old turn after new
point_ends s old turn after new is going few fits q t k =
    turn_ends s old turn after new is fits (t s (begins s old is going few fits) (record { implies = implies_none s; kept = is; ends = q })) k

-- by a decision that the adviser prefers
pub preference_ends : (s : SearchModel) (log : LogModel) (lit : Lit) (after : SearchModel) → IsSearch s → WhereTold log (λ told. LogFits told s) → AllQuiet s → IsOpenIn s.problem (room_in s) lit → after ≡ decided_by s lit → IsSearch after → AdvisedTurn s log turns.Decided after log
preference_ends s log lit after is fits q o e kept = record {
  meets = record {
    mid = s;
    then = log;
    heeds = heeds_none s log is fits;
    follows = FollowsAdvice.by_preference (record { answer = refl; quiet = q; lit = lit; fits = o.fits; is_open = o.free; decides = e; kept = kept; same_log = refl });
  };
  kept = refl;
}

-- by a decision of the branching rule
pub rule_ends : (s : SearchModel) (log : LogModel) (after : SearchModel) → IsSearch s → s.over ≡ false → s.lemmas < 100000 → WhereTold log (λ told. LogFits told s) → AllQuiet s → (IsPoint (room_in s) → ⊥) → Decides s after → AdvisedTurn s log turns.Decided after log
rule_ends s log after is going few fits q wide d =
    let settles : Settles s s Quiet = record { implies = implies_none s; kept = is; ends = q } in
    turn_ends s log turns.Decided after log is fits (turned s log log turns.Decided turns.Decided (decided_by s d.0) after refl d.2 (decided_meets s s d.0 log (begins s log is going few fits) settles wide d.1)) refl

-- ---- one part after another

keeps_on : (turn : Turn) (old here new : LogModel) → here.faults ≡ old.faults → TurnKeepsFaults turn here new → TurnKeepsFaults turn old new
keeps_on turns.Decided old here new e k = k ∙ e
keeps_on turns.Better old here new e k = k ∙ e
keeps_on turns.Lemma old here new e k = k ∙ e
keeps_on turns.Ended old here new e k = k ∙ e
keeps_on turns.NoMemory old here new e k = k ∙ e
keeps_on turns.LogFailed old here new e k = tt

pub same_over : (s after : SearchModel) (old new : LogModel) → Heeds s after old new → after.over ≡ s.over
same_over s after old new h = ap (λ (x : SearchModel). x.over) h.same

pub few_lemmas : (s after : SearchModel) (old new : LogModel) → Heeds s after old new → s.lemmas < 100000 → after.lemmas < 100000
few_lemmas s after old new h few = omega (arith, ap (λ (x : SearchModel). x.lemmas) h.same, few)

pub turn_on : (s mid after : SearchModel) (old here new : LogModel) (turn : Turn) → Heeds s mid old here → AdvisedTurn mid here turn after new → AdvisedTurn s old turn after new
turn_on s mid after old here new turn a t = record {
  meets = record { mid = t.meets.mid; then = t.meets.then; heeds = heeds_both s mid t.meets.mid old here t.meets.then a t.meets.heeds; follows = t.meets.follows };
  kept = keeps_on turn old here new a.same_faults t.kept;
}

pub round_on : (s mid after : SearchModel) (old here new : LogModel) (result : Option Turn) → Heeds s mid old here → RoundMeets mid after here new result → RoundMeets s after old new result
round_on s mid after old here new None a h = gains_on s mid after old here new a h
round_on s mid after old here new (Some turn) a h = turn_on s mid after old here new turn a h

-- what was heeded before a conflict of prices
pub fails_end : (s mid : SearchModel) (old here : LogModel) (why : Why) (turn : Turn) (after : SearchModel) (new : LogModel) → s.over ≡ false → s.lemmas < 100000 → HeedFails s mid old here why → TurnsFrom (Conflict why) mid here turn after new → TurnKeepsFaults turn here new → AdvisedTurn s old turn after new
fails_end s mid old here why turn after new going few f t k =
    turn_on s mid after old here new turn f.heeds
    (conflict_ends mid here why turn after new f.heeds.kept (same_over s mid old here f.heeds ∙ going) (few_lemmas s mid old here f.heeds few) (heeds_fit s mid old here f.heeds) f.conflict t k)

-- with one more event there are fewer left
pub fewer_left : (s after : SearchModel) (old new : LogModel) → HeedGains s after old new → most_events after.problem.ships after.problem.slots - length after.trail.events < most_events s.problem.ships s.problem.slots - length s.trail.events
fewer_left s after old new g =
    let few = few_in after g.heeds.kept in
    let same : most_events after.problem.ships after.problem.slots ≡ most_events s.problem.ships s.problem.slots = ap (λ (f : Problem). most_events f.ships f.slots) (same_problem s after old new g.heeds) in
    omega (arith, few, same, g.more)
