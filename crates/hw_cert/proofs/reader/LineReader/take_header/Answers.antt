use Rattle.std.proofs.Common.{◌≡◌, ◌+◌, length, Some, None, Ok, Err, sym, ap, ◌∙◌, subst, rules, arith, ℕ}
use Rattle.std.proofs.lemmas.Result.{err_from_is_err_and}
use Rattle.hw_cert.specs.Reader.{ReaderModel, ReaderKeeps}
use Rattle.hw_cert.specs.Nexts.{TakesHeader}
use Rattle.hw_cert.specs.declared.stop.LineStop.TheVariants.{Form}
use Rattle.hw_cert.specs.declared.stop.FormWord.TheVariants.{Header}
use Rattle.hw_cert.specs.Spelled.{version_to}
use Rattle.hw_cert.proofs.Answered.{header_stopped, header_missing, header_wrong, header_taken, keeps_on}
use Rattle.hw_cert.proofs.Headers.{header_back}
use Rattle.hw_cert.proofs.reader.LineReader.take_header.Goals as goal

pub returns-in_err-take_line : goal.returns-in_err-take_line
returns-in_err-take_line g c =
    let r : ReaderModel = record { shape = c.self.inside.shape; feed = c.self.inside.feed; at = record { most = c.self.inside.most; version = c.self.inside.version; number = c.self.inside.number; taken = c.self.inside.taken }; pending = c.self.inside.pending } in
    let none : r.at.version ≡ None = ap (λ (m : ReaderModel). m.at.version) c.self.view_is ∙ c.requires.before in
    let p = err_from_is_err_and c.from_residual.result c.from_residual.ensures.1 in
    let t = rw c.in_err-take_line.was at c.take_line.ensures in
    rw (p.1, p.2) (subst (λ (m : ReaderModel). TakesHeader m (g.D.Desk.state c.args.desk.now) (g.D.Desk.state c.take_line.new.desk) (Err c.in_err-take_line.field-0.0)) c.self.view_is (header_stopped r c.in_err-take_line.field-0.0 none c.self.invariant.short t))

pub returns-in_default : goal.returns-in_default
returns-in_default g c =
    let r : ReaderModel = record { shape = c.self.inside.shape; feed = c.self.inside.feed; at = record { most = c.self.inside.most; version = c.self.inside.version; number = c.self.inside.number; taken = c.self.inside.taken }; pending = c.self.inside.pending } in
    let none : r.at.version ≡ None = ap (λ (m : ReaderModel). m.at.version) c.self.view_is ∙ c.requires.before in
    let t = rw c.in_ok-take_line.was at c.take_line.ensures in
    subst (λ (m : ReaderModel). TakesHeader m (g.D.Desk.state c.args.desk.now) (g.D.Desk.state c.take_line.new.desk) (Err (Form c.self.inside.number Header))) c.self.view_is (header_missing r c.in_ok-take_line.field-0 none c.self.invariant.short c.in_default.not-Whole t)

pub returns-in_default-header_version : goal.returns-in_default-header_version
returns-in_default-header_version g c =
    let r : ReaderModel = record { shape = c.self.inside.shape; feed = c.self.inside.feed; at = record { most = c.self.inside.most; version = c.self.inside.version; number = c.self.inside.number; taken = c.self.inside.taken }; pending = c.self.inside.pending } in
    let none : r.at.version ≡ None = ap (λ (m : ReaderModel). m.at.version) c.self.view_is ∙ c.requires.before in
    let t = rw c.in-Whole.is at (rw c.in_ok-take_line.was at c.take_line.ensures) in
    let unnamed : version_to c.self.inside.most c.take_line.new.line.items ≡ None = ap (version_to c.self.inside.most) (sym c.deref.ensures.value) ∙ sym c.in_default-header_version.ensures in
    subst (λ (m : ReaderModel). TakesHeader m (g.D.Desk.state c.args.desk.now) (g.D.Desk.state c.take_line.new.desk) (Err (Form c.self.inside.number Header))) c.self.view_is (header_wrong r none c.self.invariant.short unnamed t)

pub invariant_of-self : goal.invariant_of-self
invariant_of-self g c =
    let r : ReaderModel = record { shape = c.self.inside.shape; feed = c.self.inside.feed; at = record { most = c.self.inside.most; version = c.self.inside.version; number = c.self.inside.number; taken = c.self.inside.taken }; pending = c.self.inside.pending } in
    let t = rw c.in-Whole.is at (rw c.in_ok-take_line.was at c.take_line.ensures) in
    let size : c.len.result ≡ length c.take_line.new.line.items = search rules in
    let same : c.self.inside.taken + length c.take_line.new.line.items + 1 ≡ c.self.inside.taken + (c.len.result + 1) = omega (arith, size) in
    let named : version_to c.self.inside.most c.take_line.new.line.items ≡ Some c.in-Some.version = ap (version_to c.self.inside.most) (sym c.deref.ensures.value) ∙ sym c.in-Some.ensures in
    let within = (header_back c.self.inside.most c.take_line.new.line.items c.in-Some.version named).1 in
    subst (λ (n : ℕ). ReaderKeeps (record { shape = c.self.inside.shape; feed = c.self.inside.feed; at = record { most = c.self.inside.most; version = Some c.in-Some.version; number = c.self.inside.number + 1; taken = n }; pending = c.take_line.new.pending })) same (keeps_on r c.in-Some.version c.self.invariant within t)

pub returns : goal.returns
returns g c =
    let r : ReaderModel = record { shape = c.self.inside.shape; feed = c.self.inside.feed; at = record { most = c.self.inside.most; version = c.self.inside.version; number = c.self.inside.number; taken = c.self.inside.taken }; pending = c.self.inside.pending } in
    let none : r.at.version ≡ None = ap (λ (m : ReaderModel). m.at.version) c.self.view_is ∙ c.requires.before in
    let t = rw c.in-Whole.is at (rw c.in_ok-take_line.was at c.take_line.ensures) in
    let size : c.len.result ≡ length c.take_line.new.line.items = search rules in
    let same : c.self.inside.taken + length c.take_line.new.line.items + 1 ≡ c.self.inside.taken + (c.len.result + 1) = omega (arith, size) in
    let named : version_to c.self.inside.most c.take_line.new.line.items ≡ Some c.in-Some.version = ap (version_to c.self.inside.most) (sym c.deref.ensures.value) ∙ sym c.in-Some.ensures in
    subst (λ (m : ReaderModel). TakesHeader m (g.D.Desk.state c.args.desk.now) (g.D.Desk.state c.take_line.new.desk) (Ok (record { shape = c.self.inside.shape; feed = c.self.inside.feed; at = record { most = c.self.inside.most; version = Some c.in-Some.version; number = c.self.inside.number + 1; taken = c.self.inside.taken + (c.len.result + 1) }; pending = c.take_line.new.pending }))) c.self.view_is
    (subst (λ (n : ℕ). TakesHeader r (g.D.Desk.state c.args.desk.now) (g.D.Desk.state c.take_line.new.desk) (Ok (record { shape = c.self.inside.shape; feed = c.self.inside.feed; at = record { most = c.self.inside.most; version = Some c.in-Some.version; number = c.self.inside.number + 1; taken = n }; pending = c.take_line.new.pending }))) same
    (header_taken r c.in-Some.version none c.self.invariant.short named t))
