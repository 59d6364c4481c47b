-- A search that went back, or stopped, whatever a log tells.
use Rattle.std.proofs.Common.{◌≡◌, ℕ, ◌+◌, ◌≤◌, true, false, List, [], ◌∷◌, ◌++◌, Option, Some, None, length, fold, slice_set, refl, sym, ap, ◌∙◌, subst, arith, length-set}
use Rattle.hw_model.specs.declared.lit.Lit.{Lit}
use Rattle.hw_cert_lines.specs.declared.line.Line.{Line}
use Rattle.hw_cert_lines.specs.declared.line.Line.TheVariants as lines
use Rattle.hw_cert_lines.specs.Lines.{source_line}
use Rattle.hw_trail_laws.specs.declared.event.Why.{Why}
use Rattle.hw_trail_laws.specs.declared.event.Why.TheVariants as whys
use Rattle.hw_trail_laws.specs.Trails.{reason_clause, most_events}
use Rattle.hw_trail_laws.specs.Learning.{Learns}
use Rattle.hw_search_laws.specs.Searches.{SearchModel, IsSearch, written_at, why_at}
use Rattle.hw_search_laws.specs.Settling.{IsConflict}
use Rattle.hw_search_laws.specs.Turns.{with_written, Cited, cite_by, cite, cited, cite_conflict, with_lemma, gone_back}
use Rattle.hw_search_laws.specs.Laws.{NumbersKept, BackKeeps, StopKeeps}
use Rattle.hw_search_laws.proofs.Numbers.{set_stay}
use Rattle.hw_search_laws.proofs.Trues.{lemma_true}
use Rattle.hw_search_laws.proofs.Keeps.{lemma_search, stopped_search, lacking_search}
use Rattle.hw_search_laws.proofs.Turned.{few_for}

-- ---- the numbers that naming leaves

named : (s : SearchModel) (c : Cited) (k : ℕ) (hints : List ℕ) → NumbersKept s c k → NumbersKept s (record c { hints = hints }) (k + 1)
named s c k hints h = record { same = h.same; long = h.long; stay = h.stay; low = h.low; high = omega (arith, h.high) }

numbered : (s : SearchModel) (c : Cited) (all : List Line) (hints : List ℕ) (place k : ℕ) → NumbersKept s c k → NumbersKept s (record { search = with_written c.search place; lines = all; hints = hints }) (k + 1)
numbered s c all hints place k h = record {
  same = ap (λ (x : SearchModel). record x { written = slice_set c.search.written place (Some (c.search.clause_lines + 1)); clause_lines = c.search.clause_lines + 1 }) h.same;
  long = length-set c.search.written place (Some (c.search.clause_lines + 1)) ∙ h.long;
  stay = λ q written. set_stay c.search.written place (c.search.clause_lines + 1) q (h.stay q written);
  low = omega (arith, h.low);
  high = omega (arith, h.high);
}

cite_kept : (s : SearchModel) (c : Cited) (place k : ℕ) → NumbersKept s c k → NumbersKept s (cite c place) (k + 1)
cite_kept s c place k h = by (why_at c.search.trail place) (written_at c.search place)
  where
    by : (o : Option Why) (p : Option ℕ) → NumbersKept s (cite_by c place o p) (k + 1)
    by None p = named s c k c.hints h
    by (Some (whys.Lemma number clause)) p = named s c k (c.hints ++ number ∷ []) h
    by (Some (whys.Source source clause)) (Some number) = named s c k (c.hints ++ number ∷ []) h
    by (Some (whys.Source source clause)) None = numbered s c (c.lines ++ source_line c.search.problem source clause ∷ []) (c.hints ++ (c.search.clause_lines + 1) ∷ []) place k h
    by (Some (whys.Priced clause)) (Some number) = named s c k (c.hints ++ number ∷ []) h
    by (Some (whys.Priced clause)) None = numbered s c (c.lines ++ lines.Priced clause ∷ []) (c.hints ++ (c.search.clause_lines + 1) ∷ []) place k h

all_kept : (s : SearchModel) (c : Cited) (k : ℕ) (places : List ℕ) → NumbersKept s c k → NumbersKept s (fold cite c places) (k + length places)
all_kept s c k [] h = record { same = h.same; long = h.long; stay = h.stay; low = h.low; high = omega (arith, h.high) }
all_kept s c k (place ∷ places) h =
    let t = all_kept s (cite c place) (k + 1) places (cite_kept s c place k h) in
    record { same = t.same; long = t.long; stay = t.stay; low = t.low; high = omega (arith, t.high) }

counted : (s : SearchModel) (c : Cited) (all : List Line) (hints : List ℕ) (k : ℕ) → NumbersKept s c k → NumbersKept s (record { search = record c.search { clause_lines = c.search.clause_lines + 1 }; lines = all; hints = hints }) (k + 1)
counted s c all hints k h = record {
  same = ap (λ (x : SearchModel). record x { clause_lines = c.search.clause_lines + 1 }) h.same;
  long = h.long;
  stay = h.stay;
  low = omega (arith, h.low);
  high = omega (arith, h.high);
}

conflict_kept : (s : SearchModel) (c : Cited) (k : ℕ) (why : Why) → NumbersKept s c k → NumbersKept s (cite_conflict c why) (k + 1)
conflict_kept s c k (whys.Lemma number clause) h = named s c k (c.hints ++ number ∷ []) h
conflict_kept s c k (whys.Source source clause) h = counted s c (c.lines ++ source_line c.search.problem source clause ∷ []) (c.hints ++ (c.search.clause_lines + 1) ∷ []) k h
conflict_kept s c k (whys.Priced clause) h = counted s c (c.lines ++ lines.Priced clause ∷ []) (c.hints ++ (c.search.clause_lines + 1) ∷ []) k h

pub numbers_kept : (s : SearchModel) (why : Why) (places : List ℕ) → NumbersKept s (cite_conflict (cited s places) why) (length places + 1)
numbers_kept s why places =
    let t = all_kept s (record { search = s; lines = []; hints = [] }) 0 places (record { same = refl; long = refl; stay = λ q written. written; low = omega arith; high = omega arith }) in
    conflict_kept s (cited s places) (length places) why (record { same = t.same; long = t.long; stay = t.stay; low = t.low; high = omega (arith, t.high) })

-- ---- going back

pub past : (s : SearchModel) → IsSearch s → (why : Why) (lemma : List Lit) (back : ℕ) (places : List ℕ) → s.over ≡ false → IsConflict s why → Learns s.trail (reason_clause why) lemma back places → 1 ≤ length lemma → BackKeeps s (gone_back (with_lemma (cite_conflict (cited s places) why).search lemma) back)
past s is why lemma back places over k learns some =
    let c = cite_conflict (cited s places) why in
    let n = numbers_kept s why places in
    let m : length places ≤ most_events s.problem.ships s.problem.slots = few_for s why lemma back places is learns in
    let high : c.search.clause_lines ≤ s.clause_lines + most_events s.problem.ships s.problem.slots + 1 = omega (arith, n.high, m) in
    let gone = gone_back (with_lemma c.search lemma) back in
    let a : IsSearch gone = subst (λ (x : SearchModel). IsSearch (gone_back (with_lemma x lemma) back)) (sym n.same) (lemma_search s c.search.written c.search.clause_lines (reason_clause why) lemma back places is over n.long n.stay n.low high learns some (lemma_true s is why lemma back places k learns)) in
    record {
      kept = a;
      over = stopped_search gone gone.written gone.clause_lines gone.lemmas a refl (λ q written. written) (omega arith);
      lacks = subst (λ (x : SearchModel). IsSearch (record (gone_back (with_lemma x lemma) back) { stored = s.stored; over = true })) (sym n.same) (lacking_search s c.search.written c.search.clause_lines (reason_clause why) lemma back places is n.long n.stay n.low learns some);
    }

pub stop_keeps : (s : SearchModel) → IsSearch s → StopKeeps s
stop_keeps s is = record {
  numbers = λ why places. numbers_kept s why places;
  before = λ written lines lemmas long stay low. stopped_search s written lines lemmas is long stay low;
  past = λ why lemma back places over k learns some. past s is why lemma back places over k learns some;
}
