use Rattle.std.proofs.Common.{◌≡◌, drop}
use Rattle.hw_flat_programme.specs.Rows.{IsWindow, joint, joint_from}
use Rattle.hw_flat_programme.proofs.groups.joint.Given as goal

-- with the windows that are left it is that of all of them
abbrev pub invariant-loop-span : goal.invariant-loop-span
invariant-loop-span l =
    (joint_from l.apart l.ship l.joint (drop l.span-index l.spans) ≡ joint l.apart l.ship l.spans) × IsWindow l.apart l.joint
