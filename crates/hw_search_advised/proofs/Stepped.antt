-- The steps of a solution with advice, one after another.
use Rattle.std.proofs.Common.{◌≡◌, ◌⊎◌, ℕ, ◌+◌, ◌-◌, ◌<◌, ◌≤◌, false, Some, IfSome, inl, inr, refl, sym, ap, ◌∙◌, subst, arith}
use Rattle.hw_model.specs.Problem.{Problem}
use Rattle.hw_model.specs.Timetables.{Permits}
use Rattle.hw_cert.specs.Logs.{LogModel, WhereTold}
use Rattle.hw_search_laws.specs.declared.outcome.Bounded.{Bounded}
use Rattle.hw_search_laws.specs.declared.outcome.Bounded.TheVariants as bounds
use Rattle.hw_search_laws.specs.declared.outcome.Turn.{Turn}
use Rattle.hw_search_laws.specs.declared.outcome.Turn.TheVariants as turns
use Rattle.hw_search_laws.specs.Advised.{Heeds, StopsBound, BoundMeets, FollowsAdvice, AdvisedMeets}
use Rattle.hw_search_laws.specs.Advised.FollowsAdvice.{by_turn, by_preference, by_stop}
use Rattle.hw_search_laws.specs.Closing.{Closes}
use Rattle.hw_search_laws.specs.Proposing.{TakesProposal}
use Rattle.hw_search_laws.specs.Proving.{ProvedSoFar, Proving}
use Rattle.hw_search_laws.specs.Searches.{SearchModel, IsSearch, LogFits, best_cargo}
use Rattle.hw_search_laws.specs.Turns.{is_last}
use Rattle.hw_search_laws.proofs.OneLemma.{few_lemmas}
use Rattle.hw_search_laws.proofs.Provings.{proving}
use Rattle.hw_search_laws.proofs.Told.{told_same, where_grown}
use Rattle.hw_search_advised.specs.declared.stepping.Step.{Step}
use Rattle.hw_search_advised.specs.declared.stepping.Step.TheVariants as steps
use Rattle.hw_search_advised.specs.Bounding.{BoundKeepsFaults}
use Rattle.hw_search.specs.Going.{cargo_rank, most_cargo, turns_left}
use Rattle.hw_search_advised.specs.Stepping.{CanGoOn, StepsOn, StepLeaves, StepMeets, StepLooked, StepKeepsFaults}
use Rattle.hw_search_advised.proofs.Heedings.{same_problem}
use Rattle.hw_search.proofs.Counting.{rank_rises}
use Rattle.hw_search_advised.proofs.Nearing.{advised_nearer, turn_search}
use Rattle.hw_search_advised.proofs.Provers.{bound_goes, ends}

-- ---- where a step begins

pub fits_here : (s : SearchModel) (here : LogModel) → CanGoOn s here → WhereTold here (λ told. LogFits told s)
fits_here s here c = where_grown here here (λ was told. ProvedSoFar s.problem s told) (λ told. LogFits told s) c.going.told (λ was told h. h.fits)

rebased : (f : Problem) (budget : ℕ) (u : SearchModel) (old now : LogModel) → budget ≤ 100000 → Proving f budget u old now → Proving u.problem 100000 u now now
rebased f budget u old now le g = record {
  same_problem = refl;
  going = g.going;
  within = omega (arith, g.within, le);
  later = omega arith;
  told = told_same now (λ told. ProvedSoFar f u told) (λ was told. ProvedSoFar u.problem u told) (where_grown old now (λ was told. ProvedSoFar f u told) (λ told. ProvedSoFar f u told) g.told (λ was told h. h)) (λ told h. subst (λ (p : Problem). ProvedSoFar p u told) (sym g.same_problem) h);
}

pub can_begin : (f : Problem) (budget : ℕ) (u : SearchModel) (old now : LogModel) → budget ≤ 100000 → IsSearch u → Proving f budget u old now → CanGoOn u now
can_begin f budget u old now le is g = record { kept = is; going = rebased f budget u old now le g }

-- a part of a step after which it goes on
abbrev pub Leads : ℕ → SearchModel → LogModel → SearchModel → LogModel → Type 0
Leads k s here mid there = (f : Problem) (budget : ℕ) (old : LogModel) → Proving f budget s old here → s.lemmas + k ≤ budget → StepsOn k f budget old s mid there

pub can_on : (k : ℕ) (s mid : SearchModel) (here there : LogModel) → CanGoOn s here → s.lemmas + k ≤ 100000 → Leads k s here mid there → CanGoOn mid there
can_on k s mid here there c few leads = let a = leads s.problem 100000 here c.going few in can_begin s.problem 100000 mid here there (omega arith) a.kept a.going

pub few_here : (s : SearchModel) (here : LogModel) → CanGoOn s here → s.lemmas + 0 ≤ 100000
few_here s here c = omega (arith, c.going.within)

-- ---- one part after another

leaves_on : (k : ℕ) (f : Problem) (budget : ℕ) (old : LogModel) (s mid u : SearchModel) (there now : LogModel) (step : Step) → StepsOn k f budget old s mid there → StepLeaves 0 f budget old mid step u now → StepLeaves k f budget old s step u now
leaves_on k f budget old s mid u there now steps.GoesOn a h = record { kept = h.kept; going = h.going; few = omega (arith, a.few, h.few); left = omega (arith, a.left, h.left) }
leaves_on k f budget old s mid u there now steps.Ended a h = h
leaves_on k f budget old s mid u there now steps.NoMemory a h = h
leaves_on k f budget old s mid u there now steps.LogFailed a h = h

-- a part, and then a step without a lemma
pub then_step : (k : ℕ) (s mid u : SearchModel) (here there now : LogModel) (step : Step) → Leads k s here mid there → StepMeets 0 mid there step u now → StepMeets k s here step u now
then_step k s mid u here there now step leads meets f budget old g few =
    let a = leads f budget old g few in
    leaves_on k f budget old s mid u there now step a (meets f budget old a.going (omega (arith, a.going.within)))

-- a part without a lemma, and then a step
leaves_after : (k : ℕ) (f : Problem) (budget : ℕ) (old : LogModel) (s mid u : SearchModel) (there now : LogModel) (step : Step) → StepsOn 0 f budget old s mid there → StepLeaves k f budget old mid step u now → StepLeaves k f budget old s step u now
leaves_after k f budget old s mid u there now steps.GoesOn a h = record { kept = h.kept; going = h.going; few = omega (arith, a.few, h.few); left = omega (arith, a.left, h.left) }
leaves_after k f budget old s mid u there now steps.Ended a h = h
leaves_after k f budget old s mid u there now steps.NoMemory a h = h
leaves_after k f budget old s mid u there now steps.LogFailed a h = h

pub after_step : (k : ℕ) (s mid u : SearchModel) (here there now : LogModel) (step : Step) → Leads 0 s here mid there → StepMeets k mid there step u now → StepMeets k s here step u now
after_step k s mid u here there now step leads meets f budget old g few =
    let a = leads f budget old g (omega (arith, g.within)) in
    leaves_after k f budget old s mid u there now step a (meets f budget old a.going (omega (arith, a.few, few)))

-- a step without a lemma that didn't go on is one with fewer lemmas than it might have
pub wider : (s u : SearchModel) (here now : LogModel) (step : Step) → (step ≡ steps.GoesOn → ⊥) → StepMeets 0 s here step u now → StepMeets 1 s here step u now
wider s u here now steps.GoesOn stopped meets = absurd (stopped refl)
wider s u here now steps.Ended stopped meets = λ f budget old g few. meets f budget old g (omega (arith, few))
wider s u here now steps.NoMemory stopped meets = λ f budget old g few. meets f budget old g (omega (arith, few))
wider s u here now steps.LogFailed stopped meets = λ f budget old g few. meets f budget old g (omega (arith, few))

-- ---- the parts

-- nothing changed
pub stays : (s u : SearchModel) (here now : LogModel) → IsSearch s → u ≡ s → now ≡ here → Leads 0 s here u now
stays s u here now is e l f budget old g few = record {
  kept = subst IsSearch (sym e) is;
  going = (proving f budget).0.same s u old here now g (e, l);
  few = omega (arith, ap (λ (x : SearchModel). x.lemmas) e);
  left = let same : turns_left budget u ≡ turns_left budget s = ap (turns_left budget) e in omega (arith, same);
}

-- a bound was told, or there was none
pub bounds_on : (b : Bounded) (s u : SearchModel) (here now : LogModel) → (b ≡ bounds.Lower) ⊎ (b ≡ bounds.Same) → IsSearch s → BoundMeets s here b u now → BoundKeepsFaults b here now → Leads 0 s here u now
bounds_on b s u here now which is h k f budget old g few =
    let on = bound_goes f budget b s u old here now which is g h k in
    record { kept = on.kept; going = on.going; few = omega (arith, on.lemmas); left = omega (arith, on.left) }

-- a better timetable was proposed
fewer : (most x low high : ℕ) → low ≤ high → (most - high) + x ≤ (most - low) + x
fewer most x low high le = omega (arith, le)

pub proposed_on : (s u : SearchModel) (here now : LogModel) → TakesProposal s u here now → Leads 0 s here u now
proposed_on s u here now t f budget old g few = record {
  kept = t.kept;
  going = (proving f budget).0.proposed s u old here now g t;
  few = omega (arith, ap (λ (x : SearchModel). x.lemmas) t.takes);
  left = omega (arith, less, ap (turns_left budget) t.takes);
}
  where
    best_is : best_cargo (record s { best = Some t.table }) ≡ Some t.better.0
    best_is = t.better.1

    rises : cargo_rank (best_cargo s) ≤ cargo_rank (best_cargo (record s { best = Some t.table }))
    rises = omega (arith, rank_rises t.better.0 (best_cargo s) t.better.2, ap cargo_rank best_is)

    less : turns_left budget (record s { best = Some t.table }) ≤ turns_left budget s
    less = fewer (most_cargo s.problem + 1) _ (cargo_rank (best_cargo s)) (cargo_rank (best_cargo (record s { best = Some t.table }))) rises

-- a turn that isn't the last
advised_few : (turn : Turn) (s u : SearchModel) (here now : LogModel) → is_last turn ≡ false → AdvisedMeets s here turn u now → u.lemmas ≤ s.lemmas + 1
advised_few turn s u here now last a = omega (arith, ap (λ (x : SearchModel). x.lemmas) a.heeds.same, by a.follows)
  where
    by : FollowsAdvice a.mid a.then turn u now → u.lemmas ≤ a.mid.lemmas + 1
    by (by_turn t) = few_lemmas turn a.mid u a.then now t.does
    by (by_preference p) = omega (arith, ap (λ (x : SearchModel). x.lemmas) p.decides)
    by (by_stop x) = omega (arith, ap (λ (y : SearchModel). y.lemmas) x.over)

pub turn_on : (turn : Turn) (s u : SearchModel) (here now : LogModel) → is_last turn ≡ false → AdvisedMeets s here turn u now → Leads 1 s here u now
turn_on turn s u here now last a f budget old g few =
    let lt : s.lemmas < budget = omega (arith, few) in
    let near = advised_nearer turn budget s u here now last lt a in
    record {
      kept = turn_search turn s u here now last g.going a;
      going = (proving f budget).0.turns s u turn old here now g lt last a;
      few = advised_few turn s u here now last a;
      left = omega (arith, near);
    }

-- ---- the ends

-- the best is permitted
best_on : (f : Problem) (s mid u : SearchModel) (here there : LogModel) → s.problem ≡ f → Heeds s mid here there → u.best ≡ mid.best → IfSome u.best (Permits f)
best_on f s mid u here there same h e = subst (λ o. IfSome o (Permits f)) (sym e) (subst (λ (p : Problem). IfSome mid.best (Permits p)) (same_problem s mid here there h ∙ same) h.kept.permitted)

closed_best : (f : Problem) (s u : SearchModel) (here now : LogModel) → s.problem ≡ f → Closes s u here now → IfSome u.best (Permits f)
closed_best f s u here now same x = best_on f s x.mid u here x.then same x.heeds (ap (λ (y : SearchModel). y.best) x.over)

ended_best : (f : Problem) (s u : SearchModel) (here now : LogModel) → s.problem ≡ f → AdvisedMeets s here turns.Ended u now → IfSome u.best (Permits f)
ended_best f s u here now same a = by a.follows
  where
    by : FollowsAdvice a.mid a.then turns.Ended u now → IfSome u.best (Permits f)
    by (by_turn t) = best_on f s a.mid u here a.then same a.heeds (t.best_stays refl)
    by (by_preference p) = absurd (no_decision p.answer)
      where
        no_decision : turns.Ended ≡ turns.Decided → ⊥
        no_decision e = cc
    by (by_stop x) = absurd x.cause

pub closes : (s u : SearchModel) (here now : LogModel) → IsSearch s → Closes s u here now → StepMeets 0 s here steps.Ended u now
closes s u here now is x f budget old g few = (closed_best f s u here now g.same_problem x, λ answer e. (ends f budget s old here is g).closed u now x answer e)

pub stops : (s u : SearchModel) (here now : LogModel) → IsSearch s → StopsBound s here turns.NoMemory u now → StepMeets 0 s here steps.NoMemory u now
stops s u here now is x f budget old g few = (ends f budget s old here is g).bound_stopped u now x

pub fails : (s u : SearchModel) (here now : LogModel) → IsSearch s → StopsBound s here turns.LogFailed u now → StepMeets 0 s here steps.LogFailed u now
fails s u here now is x f budget old g few = (ends f budget s old here is g).bound_failed u now x

pub turn_ends : (s u : SearchModel) (here now : LogModel) → IsSearch s → AdvisedMeets s here turns.Ended u now → StepMeets 1 s here steps.Ended u now
turn_ends s u here now is a f budget old g few = (ended_best f s u here now g.same_problem a, λ answer e. (ends f budget s old here is g).ended u now (omega (arith, few)) a answer e)

pub turn_stops : (s u : SearchModel) (here now : LogModel) → IsSearch s → AdvisedMeets s here turns.NoMemory u now → StepMeets 1 s here steps.NoMemory u now
turn_stops s u here now is a f budget old g few = (ends f budget s old here is g).stopped u now (omega (arith, few)) a

pub turn_fails : (s u : SearchModel) (here now : LogModel) → IsSearch s → AdvisedMeets s here turns.LogFailed u now → StepMeets 1 s here steps.LogFailed u now
turn_fails s u here now is a f budget old g few = (ends f budget s old here is g).failed u now (omega (arith, few)) a

-- ---- faults and looks

pub kept_on : (step : Step) (here there now : LogModel) → there.faults ≡ here.faults → StepKeepsFaults step there now → StepKeepsFaults step here now
kept_on steps.GoesOn here there now e k = k ∙ e
kept_on steps.Ended here there now e k = k ∙ e
kept_on steps.NoMemory here there now e k = k ∙ e
kept_on steps.LogFailed here there now e k = tt

pub looked_on : (step : Step) (s mid u : SearchModel) → mid.lemmas ≡ s.lemmas → StepLooked mid step u → StepLooked s step u
looked_on steps.GoesOn s mid u e h = (h.0, h.1 ∙ e)
looked_on steps.Ended s mid u e h = tt
looked_on steps.NoMemory s mid u e h = tt
looked_on steps.LogFailed s mid u e h = tt

-- a bound leaves the lemmas
pub bound_lemmas : (b : Bounded) (s u : SearchModel) (here now : LogModel) → (b ≡ bounds.Lower) ⊎ (b ≡ bounds.Same) → BoundMeets s here b u now → u.lemmas ≡ s.lemmas
bound_lemmas bounds.Lower s u here now which h = ap (λ (x : SearchModel). x.lemmas) h.after_is ∙ ap (λ (x : SearchModel). x.lemmas) h.heeds.same
bound_lemmas bounds.Same s u here now which h = ap (λ (x : SearchModel). x.lemmas) h.0
bound_lemmas bounds.NoMemory s u here now which h = absurd (other which)
  where
    other : (bounds.NoMemory ≡ bounds.Lower) ⊎ (bounds.NoMemory ≡ bounds.Same) → ⊥
    other (inl e) = cc
    other (inr e) = cc
bound_lemmas bounds.LogFailed s u here now which h = absurd (other which)
  where
    other : (bounds.LogFailed ≡ bounds.Lower) ⊎ (bounds.LogFailed ≡ bounds.Same) → ⊥
    other (inl e) = cc
    other (inr e) = cc

-- nor does it have a fault
pub bound_faults : (b : Bounded) (here now : LogModel) → (b ≡ bounds.Lower) ⊎ (b ≡ bounds.Same) → BoundKeepsFaults b here now → now.faults ≡ here.faults
bound_faults bounds.Lower here now which k = k
bound_faults bounds.Same here now which k = k
bound_faults bounds.NoMemory here now which k = k
bound_faults bounds.LogFailed here now which k = absurd (other which)
  where
    other : (bounds.LogFailed ≡ bounds.Lower) ⊎ (bounds.LogFailed ≡ bounds.Same) → ⊥
    other (inl e) = cc
    other (inr e) = cc
