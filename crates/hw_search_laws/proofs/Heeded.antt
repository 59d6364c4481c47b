-- Advice that is heeded in parts is heeded, and one line is.
use Rattle.std.proofs.Common.{◌≡◌, List, [], ◌∷◌, ◌++◌, IsSome, refl, sym, ap, ◌∙◌, subst, append-nil, append_assoc}
use Rattle.std.specs.Prelude.{AllPairs}
use Rattle.std.specs.List.{cons_option}
use Rattle.std.proofs.lemmas.List.Elements.{All-nil, All-cons, All-append, filter_map-append}
use Rattle.hw_model.specs.Problem.{Problem}
use Rattle.hw_model.specs.Rooms.{RoomWithin}
use Rattle.hw_cert_lines.specs.declared.line.Line.{Line}
use Rattle.hw_cert_lines.specs.Valid.{LineFits, ValidFrom, denied_room}
use Rattle.hw_cert_lines.specs.Lemmas.{lemma_of, lemmas_of, IsNew, LeanFrom}
use Rattle.hw_trail_laws.specs.declared.event.Event.{Event}
use Rattle.hw_trail_laws.specs.Trails.{TrailModel}
use Rattle.hw_cert.specs.Logs.{LogTold, LogModel, WhereTold, Grows}
use Rattle.hw_search_laws.specs.Living.{FewLiveFrom}
use Rattle.hw_search_laws.specs.Searches.{SearchModel, IsSearch, FitsOpen, LiveKept, LogFits}
use Rattle.hw_search_laws.specs.Advised.{WritesGood, HeedWrites, Heeds, HeedsLine}
use Rattle.hw_search_laws.specs.Laws.{PriceMeets, PriceTaken}
use Rattle.hw_search_laws.proofs.Lines.{same_lemmas}
use Rattle.hw_search_laws.proofs.Plainly.{grown_from}
use Rattle.hw_search_laws.proofs.Told.{told_same, told_on}

-- ---- lines after lines

pub valid_append : (f : Problem) (before a b : List Line) → ValidFrom f before a → ValidFrom f (before ++ a) b → ValidFrom f before (a ++ b)
valid_append f before [] b v w = subst (λ xs. ValidFrom f xs b) (append-nil before) w
valid_append f before (line ∷ a) b v w = (v.0, valid_append f (before ++ line ∷ []) a b v.1 (subst (λ xs. ValidFrom f xs b) (sym (append_assoc before (line ∷ []) a)) w))

pub lean_append : (f : Problem) (before a b : List Line) → LeanFrom f before a → LeanFrom f (before ++ a) b → LeanFrom f before (a ++ b)
lean_append f before [] b v w = subst (λ xs. LeanFrom f xs b) (append-nil before) w
lean_append f before (line ∷ a) b v w = (v.0, lean_append f (before ++ line ∷ []) a b v.1 (subst (λ xs. LeanFrom f xs b) (sym (append_assoc before (line ∷ []) a)) w))

few_append : (f : Problem) (before a b : List Line) → FewLiveFrom f before a → FewLiveFrom f (before ++ a) b → FewLiveFrom f before (a ++ b)
few_append f before [] b v w = subst (λ xs. FewLiveFrom f xs b) (append-nil before) w
few_append f before (line ∷ a) b v w = (v.0, few_append f (before ++ line ∷ []) a b v.1 (subst (λ xs. FewLiveFrom f xs b) (sym (append_assoc before (line ∷ []) a)) w))

good_none : (f : Problem) (before : List Line) → WritesGood f before []
good_none f before = record {
  fit = All-nil (LineFits f);
  valid = tt;
  lean = tt;
  new = λ old. subst (IsNew f) (sym (append-nil before)) old;
}

good_append : (f : Problem) (before a b : List Line) → WritesGood f before a → WritesGood f (before ++ a) b → WritesGood f before (a ++ b)
good_append f before a b v w = record {
  fit = All-append (LineFits f) a b v.fit w.fit;
  valid = valid_append f before a b v.valid w.valid;
  lean = lean_append f before a b v.lean w.lean;
  new = λ old. subst (IsNew f) (append_assoc before a b) (w.new (v.new old));
}

-- ---- nothing, and one after the other

abbrev with_more : TrailModel → List Event → TrailModel
with_more t more = record { ships = t.ships; slots = t.slots; events = t.events ++ more; level = t.level }

pub heeds_none : (s : SearchModel) (log : LogModel) → IsSearch s → WhereTold log (λ told. LogFits told s) → Heeds s s log log
heeds_none s log is fits = record {
  more = [];
  implied = All-nil (λ (event : Event). IsSome event.why);
  trail = ap (λ es. record { ships = s.trail.ships; slots = s.trail.slots; events = es; level = s.trail.level }) (sym (append-nil s.trail.events));
  tolls = [];
  declared = sym (append-nil s.prices.tolls);
  same_bound = refl;
  same = refl;
  kept = is;
  same_faults = refl;
  writes = told_same log (λ told. LogFits told s) (HeedWrites s s) fits (λ now f. record {
    more = [];
    lines = sym (append-nil now.lines);
    good = good_none s.problem now.lines;
    no_lemma = refl;
    few_live = tt;
    fits = f;
  });
}

-- the lines of the one, and those of the other after them
writes_both : (s mid after : SearchModel) (was here now : LogTold) → mid.problem ≡ s.problem → HeedWrites s mid was here → HeedWrites mid after here now → HeedWrites s after was now
writes_both s mid after was here now e a b =
    let good : WritesGood s.problem (was.lines ++ a.more) b.more = subst (λ (f : Problem). WritesGood f (was.lines ++ a.more) b.more) e (subst (λ xs. WritesGood mid.problem xs b.more) a.lines b.good) in
    let few : FewLiveFrom s.problem (was.lines ++ a.more) b.more = subst (λ (f : Problem). FewLiveFrom f (was.lines ++ a.more) b.more) e (subst (λ xs. FewLiveFrom mid.problem xs b.more) a.lines b.few_live) in
    record {
      more = a.more ++ b.more;
      lines = b.lines ∙ ap (λ xs. xs ++ b.more) a.lines ∙ append_assoc was.lines a.more b.more;
      good = good_append s.problem was.lines a.more b.more a.good good;
      no_lemma = filter_map-append lemma_of a.more b.more ∙ ap (λ xs. xs ++ lemmas_of b.more) a.no_lemma ∙ b.no_lemma;
      few_live = few_append s.problem was.lines a.more b.more a.few_live few;
      fits = b.fits;
    }

pub heeds_both : (s mid after : SearchModel) (old here new : LogModel) → Heeds s mid old here → Heeds mid after here new → Heeds s after old new
heeds_both s mid after old here new a b =
    let e : mid.problem ≡ s.problem = ap (λ (x : SearchModel). x.problem) a.same in
    record {
      more = a.more ++ b.more;
      implied = All-append (λ (event : Event). IsSome event.why) a.more b.more a.implied b.implied;
      trail = b.trail ∙ ap (λ t. with_more t b.more) a.trail ∙ ap (λ es. record { ships = s.trail.ships; slots = s.trail.slots; events = es; level = s.trail.level }) (append_assoc s.trail.events a.more b.more);
      tolls = a.tolls ++ b.tolls;
      declared = b.declared ∙ ap (λ xs. xs ++ b.tolls) a.declared ∙ append_assoc s.prices.tolls a.tolls b.tolls;
      same_bound = b.same_bound ∙ a.same_bound;
      same = b.same ∙ ap (λ (x : SearchModel). record x { trail = after.trail; written = after.written; prices = after.prices; clause_lines = after.clause_lines; priced = after.priced }) a.same;
      kept = b.kept;
      same_faults = b.same_faults ∙ a.same_faults;
      writes = told_on old here new (HeedWrites s mid) (HeedWrites mid after) (HeedWrites s after) a.writes b.writes (λ was told now v w. writes_both s mid after was told now e v w);
    }

pub heeds_on : ((s : SearchModel) (log : LogModel) → IsSearch s → WhereTold log (λ told. LogFits told s) → Heeds s s log log)
    × ((s mid after : SearchModel) (old then new : LogModel) → Heeds s mid old then → Heeds mid after then new → Heeds s after old new)
heeds_on = (heeds_none, heeds_both)

-- ---- one line

line_good : (s : SearchModel) (before : List Line) (line : Line) (after : SearchModel) → PriceMeets s before line after → WritesGood s.problem before (line ∷ [])
line_good s before line after m = record {
  fit = All-cons (LineFits s.problem) line [] m.good.fits (All-nil (LineFits s.problem));
  valid = (m.good.valid, tt);
  lean = (m.good.lean, tt);
  new = λ old. subst (AllPairs (λ earlier later. RoomWithin (denied_room s.problem later) (denied_room s.problem earlier) → ⊥)) (sym (same_lemmas before line m.no_lemma)) old;
}

pub heeds_one : (s : SearchModel) (line : Line) (after : SearchModel) (old new : LogModel) → WhereTold old (λ told. LogFits told s) → new.faults ≡ old.faults → PriceTaken s line after → Grows old new (λ was now. (now.lines ≡ was.lines ++ line ∷ []) × (now.remainder ≡ []))
    → HeedsLine s line after old new
heeds_one s line after old new fits same taken grows = record {
  kept = taken.kept;
  same_faults = same;
  writes = grown_from old new (λ told. LogFits told s) (λ was now. (now.lines ≡ was.lines ++ line ∷ []) × (now.remainder ≡ [])) (λ was now. (now.lines ≡ was.lines ++ line ∷ []) × HeedWrites s after was now) fits grows (λ was now f g.
      let m = taken.meets was.lines f.fits in (
        g.0,
        record {
          more = line ∷ [];
          lines = g.0;
          good = line_good s was.lines line after m;
          no_lemma = ap (λ o. cons_option o []) m.no_lemma;
          few_live = m.few_live f.live_kept;
          fits = record {
            no_remainder = g.1;
            fits = subst (λ xs. FitsOpen xs after) (sym g.0) m.fits.opened;
            live_kept = subst (λ xs. LiveKept xs after) (sym g.0) (m.fits.kept f.live_kept);
          };
        },
      ));
}
