use Rattle.std.proofs.Common.{◌≡◌, true, take, map}
use Rattle.std.specs.List.{list_all}
use Rattle.hw_desk.specs.Writers.{Puts}
use Rattle.hw_price_laws.specs.declared.tariff.Due.{Due}
use Rattle.hw_cert.specs.Worded.{prices_text}
use Rattle.hw_cert.specs.Laws.{is_small, is_wide}
use Rattle.hw_cert.proofs.putting.put_prices.Given as goal

abbrev pub invariant-loop-due : goal.invariant-loop-due
invariant-loop-due g l =
    let state = g.W.Writer.state in
    record {
      puts : Puts (prices_text (take l.due-index l.prices)) (state l.fn.out) (state l.out);
      small : list_all is_small (map (λ (due : Due). due.toll) (take l.due-index l.prices)) ≡ true;
      wide : list_all is_wide (map (λ (due : Due). due.price) (take l.due-index l.prices)) ≡ true;
    }
