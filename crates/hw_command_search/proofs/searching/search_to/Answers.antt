use Rattle.std.proofs.Common.{◌≡◌, false, rules}
use Rattle.std.specs.Prelude.{is_err}
use Rattle.hw_command_search.proofs.Ending.{search_ends}
use Rattle.hw_command_search.proofs.searching.search_to.Goals as goal

pub returns : goal.returns
returns g c =
    let made : is_err c.make.result ≡ false = search rules in
    let sent : is_err c.send_header.result ≡ false = search rules in
    search_ends c.make.result c.send_header.result c.search_on.result made sent c.make.ensures.makes (rw c.version.ensures at c.send_header.ensures.sends) c.search_on.ensures.outside c.search_on.ensures.told c.search_on.ensures.meets
