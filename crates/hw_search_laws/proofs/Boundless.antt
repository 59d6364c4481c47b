-- A turn's lines say no bound.
use Rattle.std.proofs.Common.{◌≡◌, ℕ, ◌≤◌, true, List, [], ◌∷◌, ◌++◌, Option, Some, None, length, take, fold, refl, sym, ap, ◌∙◌, subst, arith, append-nil, append_assoc}
use Rattle.std.specs.Prelude.{All}
use Rattle.std.proofs.lemmas.List.Elements.{All-nil, All-cons, All-append, All-push, All-head, All-tail, All-take}
use Rattle.hw_model.specs.declared.lit.Lit.{Lit}
use Rattle.hw_model.specs.declared.source.Source.{Source}
use Rattle.hw_model.specs.declared.source.Source.TheVariants as sources
use Rattle.hw_model.specs.Problem.{Problem}
use Rattle.hw_cert_lines.specs.declared.line.Line.{Line}
use Rattle.hw_cert_lines.specs.declared.line.Line.TheVariants as lines
use Rattle.hw_cert_lines.specs.Tolled.{bound_after, bound_of}
use Rattle.hw_cert_lines.proofs.Pushed.{bound_push}
use Rattle.hw_cert_lines.specs.Lines.{source_line}
use Rattle.hw_trail_laws.specs.declared.event.Why.{Why}
use Rattle.hw_trail_laws.specs.declared.event.Why.TheVariants as whys
use Rattle.hw_cert.specs.Logs.{LogTold, LogModel, Grows}
use Rattle.hw_search_laws.specs.declared.outcome.Turn.{Turn}
use Rattle.hw_search_laws.specs.declared.outcome.Turn.TheVariants as turns
use Rattle.hw_search_laws.specs.Searches.{SearchModel, written_at, why_at}
use Rattle.hw_search_laws.specs.Turns.{why_lines, Cited, cite_by, cite, cited, cite_conflict, Plans, WritesPart, FailsPart, TurnDoes, is_last}
use Rattle.hw_cert_laws.specs.Renewing.{deletion}
use Rattle.hw_search_laws.specs.Turns.DoesEnd.{at_conflict, at_lemma}
use Rattle.hw_search_laws.specs.Turns.Plans.{no_line, a_table, an_end, a_lemma}
use Rattle.hw_search_laws.proofs.Told.{told_so}

-- after the line the last bound is as before
abbrev IsBoundless : Line → Type 0
IsBoundless line = (last : Option ℕ) → bound_after last line ≡ last

same_bound : (before more : List Line) → All IsBoundless more → bound_of (before ++ more) ≡ bound_of before
same_bound before [] all = ap bound_of (append-nil before)
same_bound before (line ∷ more) all =
    ap bound_of (sym (append_assoc before (line ∷ []) more))
    ∙ same_bound (before ++ line ∷ []) more (All-tail IsBoundless line more all)
    ∙ bound_push before line
    ∙ All-head IsBoundless line more all (bound_of before)

one : (line : Line) → IsBoundless line → All IsBoundless (line ∷ [])
one line h = All-cons IsBoundless line [] h (All-nil IsBoundless)

-- ---- reasons and conflicts

source_says : (f : Problem) (source : Source) (clause : List Lit) → IsBoundless (source_line f source clause)
source_says f (sources.Window ship) clause = λ last. refl
source_says f (sources.Rule place) clause = λ last. refl
source_says f (sources.Order v w x) clause = λ last. refl
source_says f sources.Goal clause = λ last. refl

why_says : (f : Problem) (why : Why) → All IsBoundless (why_lines f why)
why_says f (whys.Lemma number clause) = All-nil IsBoundless
why_says f (whys.Source source clause) = one (source_line f source clause) (source_says f source clause)
why_says f (whys.Priced clause) = one (lines.Priced clause) (λ last. refl)

cite_says : (c : Cited) (place : ℕ) → All IsBoundless c.lines → All IsBoundless (cite c place).lines
cite_says c place h = by (why_at c.search.trail place) (written_at c.search place)
  where
    by : (o : Option Why) (p : Option ℕ) → All IsBoundless (cite_by c place o p).lines
    by None p = h
    by (Some (whys.Lemma number clause)) p = h
    by (Some (whys.Source source clause)) (Some number) = h
    by (Some (whys.Source source clause)) None = All-push IsBoundless c.lines (source_line c.search.problem source clause) h (source_says c.search.problem source clause)
    by (Some (whys.Priced clause)) (Some number) = h
    by (Some (whys.Priced clause)) None = All-push IsBoundless c.lines (lines.Priced clause) h (λ last. refl)

all_say : (c : Cited) (places : List ℕ) → All IsBoundless c.lines → All IsBoundless (fold cite c places).lines
all_say c [] h = h
all_say c (place ∷ places) h = all_say (cite c place) places (cite_says c place h)

conflict_says : (c : Cited) (why : Why) → All IsBoundless c.lines → All IsBoundless (cite_conflict c why).lines
conflict_says c (whys.Lemma number clause) h = h
conflict_says c (whys.Source source clause) h = All-push IsBoundless c.lines (source_line c.search.problem source clause) h (source_says c.search.problem source clause)
conflict_says c (whys.Priced clause) h = All-push IsBoundless c.lines (lines.Priced clause) h (λ last. refl)

cited_say : (s : SearchModel) (why : Why) (places : List ℕ) → All IsBoundless (cite_conflict (cited s places) why).lines
cited_say s why places = conflict_says (cited s places) why (all_say (record { search = s; lines = []; hints = [] }) places (All-nil IsBoundless))

-- ---- what a turn writes

deletion_says : (ids : List ℕ) → All IsBoundless (deletion ids)
deletion_says [] = All-nil IsBoundless
deletion_says (id ∷ ids) = one (lines.Delete (id ∷ ids)) (λ last. refl)

lemma_says : (c more : List Line) (lemma : List Lit) (hints : List ℕ) → All IsBoundless c → All IsBoundless more → All IsBoundless (c ++ lines.Lemma lemma hints ∷ more)
lemma_says c more lemma hints h r = All-append IsBoundless c (lines.Lemma lemma hints ∷ more) h (All-cons IsBoundless (lines.Lemma lemma hints) more (λ last. refl) r)

remainder_says : (lemma : List Lit) (ids : List ℕ) (remainder : List Line) → (1 ≤ length lemma → remainder ≡ deletion ids) → (lemma ≡ [] → remainder ≡ []) → All IsBoundless remainder
remainder_says [] ids remainder some none = subst (All IsBoundless) (sym (none refl)) (All-nil IsBoundless)
remainder_says (l ∷ lemma) ids remainder some none = subst (All IsBoundless) (sym (some (omega arith))) (deletion_says ids)

plan_says : (s : SearchModel) (before more : List Line) → Plans s before more → All IsBoundless more
plan_says s before more (no_line e) = subst (All IsBoundless) (sym e) (All-nil IsBoundless)
plan_says s before more (a_table mid settles point e) = subst (All IsBoundless) (sym e) (one _ (λ last. refl))
plan_says s before more (an_end mid why settles none e) = subst (All IsBoundless) (sym e) (why_says s.problem why)
plan_says s before more (a_lemma mid why lemma back places analysed literal remainder some none e) =
    subst (All IsBoundless) (sym e) (lemma_says (cite_conflict (cited mid places) why).lines remainder lemma (cite_conflict (cited mid places) why).hints (cited_say mid why places) (remainder_says lemma _ remainder some none))

part_says : (s : SearchModel) (was now : LogTold) → WritesPart s was now → bound_of now.lines ≡ bound_of was.lines
part_says s was now w = ap bound_of w.part ∙ same_bound was.lines (take w.upto w.plan) (All-take IsBoundless w.upto w.plan (plan_says s was.lines w.plan w.planned))

-- where a turn was the last one, the last bound is as before
pub last_bound : (turn : Turn) (s u : SearchModel) (old new : LogModel) → is_last turn ≡ true → TurnDoes s old turn u new → Grows old new (λ was now. bound_of now.lines ≡ bound_of was.lines)
last_bound turns.Decided s u old new last h = absurd cc
last_bound turns.Better s u old new last h = absurd cc
last_bound turns.Lemma s u old new last h = absurd cc
last_bound turns.Ended s u old new last (at_conflict h) = told_so old new (λ was now. now.lines ≡ was.lines ++ why_lines s.problem h.why) (λ was now. bound_of now.lines ≡ bound_of was.lines) h.written (λ was now e.
    ap bound_of e ∙ same_bound was.lines (why_lines s.problem h.why) (why_says s.problem h.why))
last_bound turns.Ended s u old new last (at_lemma h) =
    let c = cite_conflict (cited h.mid h.places) h.why in
    told_so old new (λ was now. now.lines ≡ was.lines ++ c.lines ++ lines.Lemma [] c.hints ∷ []) (λ was now. bound_of now.lines ≡ bound_of was.lines) h.written (λ was now e.
    ap bound_of e ∙ ap bound_of (append_assoc was.lines c.lines (lines.Lemma [] c.hints ∷ [])) ∙ same_bound was.lines (c.lines ++ lines.Lemma [] c.hints ∷ []) (lemma_says c.lines [] [] c.hints (cited_say h.mid h.why h.places) (All-nil IsBoundless)))
last_bound turns.NoMemory s u old new last h = told_so old new (WritesPart s) (λ was now. bound_of now.lines ≡ bound_of was.lines) h.part (part_says s)
last_bound turns.LogFailed s u old new last h = told_so old new (FailsPart s) (λ was now. bound_of now.lines ≡ bound_of was.lines) h.part (λ was now p. part_says s was now p.written)
