use Rattle.std.proofs.Common.{◌≡◌, ◌++◌, [], ◌∷◌, map, decimal, sym, ap, ◌∙◌}
use Rattle.hw_flat.specs.TextWritten.{led, hole_text, job_text, step_text, tugs_key, rule_text}
use Rattle.hw_flat.proofs.WrittenWords.{on_ok, keyed_both, keyed_next}
use Rattle.hw_flat.proofs.writing.put_rule.Goals as goal

pub returns-in_ok-put_spaced-in-Pair : goal.returns-in_ok-put_spaced-in-Pair
returns-in_ok-put_spaced-in-Pair c =
    on_ok c.put_holes.result (c.put_holes.new.out.items ≡ c.put_spaced.new.out.items ++ led (map hole_text c.deref.result.now)) (c.put_holes.new.out.items ≡ c.args.out.now.items ++ rule_text c.args.rule.now)
    (λ e. rw (e, c.in_ok-put_spaced-in-Pair.ensures, c.in_ok-put_key-in-Pair.ensures, c.in-Pair.is, c.deref.ensures.value, sym c.holes.view_is) (keyed_next 112 c.args.out.now.items (decimal c.in-Pair.v) (decimal c.in-Pair.w) (map hole_text c.holes.inside.items.items))) c.put_holes.ensures

pub returns-in_ok-put_steps-in-Tugs : goal.returns-in_ok-put_steps-in-Tugs
returns-in_ok-put_steps-in-Tugs c =
    let later = c.later.inside.items.items in
    let jobs = c.jobs.inside.items.items in
    let key : c.key_of.result ∷ [] ≡ tugs_key later = c.key_of.ensures ∙ ap tugs_key c.deref-in-Tugs.ensures.value in
    on_ok c.put_jobs.result (c.put_jobs.new.out.items ≡ c.put_steps.new.out.items ++ led (map job_text c.deref-in-Tugs-3.result.now)) (c.put_jobs.new.out.items ≡ c.args.out.now.items ++ rule_text c.args.rule.now)
    (λ e. rw (e, c.in_ok-put_steps-in-Tugs.ensures, c.in_ok-put_key-in-Tugs.ensures, c.in-Tugs.is, c.deref-in-Tugs-2.ensures.value, c.deref-in-Tugs-3.ensures.value, sym c.later.view_is, sym c.jobs.view_is, sym key)
    (keyed_both c.key_of.result c.args.out.now.items (decimal c.in-Tugs.fleet) (map step_text later) (map job_text jobs))) c.put_jobs.ensures
