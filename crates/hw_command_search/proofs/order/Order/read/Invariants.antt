use Rattle.std.proofs.Common.{◌≡◌, ◌-◌, drop, length, replicate, take}
use Rattle.hw_flat.specs.TextForms.{with_front}
use Rattle.hw_search_laws.specs.declared.outcome.Branching.TheVariants.{Greatest}
use Rattle.hw_command_search.specs.Orders.{rules_read}
use Rattle.hw_command_search.proofs.order.Order.read.Given as goal

abbrev pub invariant-loop-place : goal.invariant-loop-place
invariant-loop-place l = record {
  read : with_front (take l.place l.rules) (rules_read (drop l.place l.letters)) ≡ rules_read l.letters;
  whole : length l.rules ≡ 64;
  rest : drop l.place l.rules ≡ replicate (64 - l.place) Greatest;
}
