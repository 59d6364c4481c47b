use Rattle.std.proofs.Common.{◌≡◌, [], ◌∷◌, length, sym, arith}
use Rattle.std.proofs.lemmas.Result.{err_from_is_err_and}
use Rattle.hw_text.specs.Parts.{parts_of}
use Rattle.hw_split_text.specs.Text.{nodes_at}
use Rattle.hw_split_text.proofs.Lines.{begun, each_range_here, named_here, one_more, faulty, all_read}
use Rattle.hw_split_text.proofs.reading.nodes_of.Goals as goal

pub loop-ranges-init : goal.loop-ranges-init
loop-ranges-init c = rw c.new-nodes.ensures.items (begun c.args.shape c.in_ok-branches.branches (parts_of 10 c.args.bytes.now) c.in_ok-branches.ensures)

pub node_line-requires-clause-each_ship : goal.node_line-requires-clause-each_ship
node_line-requires-clause-each_ship c =
    each_range_here c.args.shape (nodes_at c.args.shape 2 ([] ∷ []) (parts_of 10 c.args.bytes.now)) c.loop-ranges.nodes.items c.loop-ranges.branches (parts_of 10 c.loop-ranges.rest.now) c.in-Some.ranges.now
    c.loop-ranges.invariant (sym c.in-Some.ensures)

pub returns-in_err-node : goal.returns-in_err-node
returns-in_err-node c =
    let p = err_from_is_err_and c.from_residual-in_err-node.result c.from_residual-in_err-node.ensures.1 in
    let count : c.len.result ≡ length c.loop-ranges.nodes.items = omega (arith, c.len.ensures) in
    rw (p.1, p.2)
    (faulty c.in_err-node.field-0.0 c.args.shape (nodes_at c.args.shape 2 ([] ∷ []) (parts_of 10 c.args.bytes.now)) c.loop-ranges.nodes.items c.loop-ranges.branches c.loop-ranges.rest.now c.in-Some.ranges.now
    c.loop-ranges.invariant (sym c.in-Some.ensures) (rw count at c.in_err-node.ensures.reads))

pub pass-requires : goal.pass-requires
pass-requires c =
    let count : c.len.result ≡ length c.loop-ranges.nodes.items = omega (arith, c.len.ensures) in
    record {
      named = named_here c.args.shape (nodes_at c.args.shape 2 ([] ∷ []) (parts_of 10 c.args.bytes.now)) c.loop-ranges.nodes.items c.loop-ranges.branches (parts_of 10 c.loop-ranges.rest.now) (parts_of 10 c.in_ok-node.after.now) c.in-Some.ranges.now c.in_ok-node.node
          c.loop-ranges.invariant (sym c.in-Some.ensures) (rw count at c.in_ok-node.ensures.reads);
    }

pub loop-ranges-preserved : goal.loop-ranges-preserved
loop-ranges-preserved c =
    let count : c.len.result ≡ length c.loop-ranges.nodes.items = omega (arith, c.len.ensures) in
    one_more c.args.shape (nodes_at c.args.shape 2 ([] ∷ []) (parts_of 10 c.args.bytes.now)) c.loop-ranges.nodes.items c.push.new.self.items c.loop-ranges.branches c.pass.new.self (parts_of 10 c.loop-ranges.rest.now) (parts_of 10 c.in_ok-node.after.now) c.in-Some.ranges.now c.in_ok-node.node
    c.loop-ranges.invariant (sym c.in-Some.ensures) (rw count at c.in_ok-node.ensures.reads) c.in_ok-push.ensures.items c.in_ok-pass.ensures

pub returns : goal.returns
returns c = all_read c.args.shape (nodes_at c.args.shape 2 ([] ∷ []) (parts_of 10 c.args.bytes.now)) c.loop-ranges.nodes.items c.loop-ranges.branches c.loop-ranges.rest.now c.loop-ranges.invariant (sym c.in_default.ensures)
