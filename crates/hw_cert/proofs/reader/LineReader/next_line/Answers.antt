use Rattle.std.proofs.Common.{◌≡◌, ◌+◌, length, Option, Some, Ok, Err, sym, ap, ◌∙◌, subst, rules, arith, ℕ}
use Rattle.std.proofs.lemmas.Result.{err_from_is_err_and}
use Rattle.std.specs.Prelude.{IfSome, true}
use Rattle.hw_cert.specs.Fits.{line_read}
use Rattle.hw_cert.specs.Spelled.{is_within}
use Rattle.hw_cert.specs.Reader.{ReaderModel, ReaderKeeps}
use Rattle.hw_cert.specs.Nexts.{TakesNextLine}
use Rattle.hw_cert.specs.declared.reader.Next.TheVariants as nexts
use Rattle.hw_cert.specs.declared.stop.LineStop.TheVariants as stops
use Rattle.hw_cert.specs.declared.stop.FormWord.TheVariants as words
use Rattle.hw_cert.specs.declared.version.Version.{Version}
use Rattle.hw_cert.proofs.Shapes.{read_fits}
use Rattle.hw_cert.proofs.Formed.{read_formed}
use Rattle.hw_cert.proofs.Answered.{line_stopped, line_unended, line_bad, line_taken, keeps_on}
use Rattle.hw_cert.proofs.reader.LineReader.next_line.Goals as goal

pub returns-in_err-take_line : goal.returns-in_err-take_line
returns-in_err-take_line g c =
    let r : ReaderModel = record { shape = c.self.inside.shape; feed = c.self.inside.feed; at = record { most = c.self.inside.most; version = c.self.inside.version; number = c.self.inside.number; taken = c.self.inside.taken }; pending = c.self.inside.pending } in
    let p = err_from_is_err_and c.from_residual.result c.from_residual.ensures.1 in
    let t = rw c.in_err-take_line.was at c.take_line.ensures in
    rw (p.1, p.2) (subst (λ (m : ReaderModel). TakesNextLine m (g.D.Desk.state c.args.desk.now) (g.D.Desk.state c.take_line.new.desk) (Err c.in_err-take_line.field-0.0)) c.self.view_is (line_stopped r c.in-Some.version c.in_err-take_line.field-0.0 c.in-Some.is c.self.invariant.short t))

pub returns-in-Unended : goal.returns-in-Unended
returns-in-Unended g c =
    let r : ReaderModel = record { shape = c.self.inside.shape; feed = c.self.inside.feed; at = record { most = c.self.inside.most; version = c.self.inside.version; number = c.self.inside.number; taken = c.self.inside.taken }; pending = c.self.inside.pending } in
    let t = rw c.in-Unended.is at (rw c.in_ok-take_line.was at c.take_line.ensures) in
    subst (λ (m : ReaderModel). TakesNextLine m (g.D.Desk.state c.args.desk.now) (g.D.Desk.state c.take_line.new.desk) (Err (stops.Form c.self.inside.number words.Form))) c.self.view_is (line_unended r c.in-Some.version c.in-Some.is c.self.invariant.short t)

pub invariant_of-self : goal.invariant_of-self
invariant_of-self g c =
    let r : ReaderModel = record { shape = c.self.inside.shape; feed = c.self.inside.feed; at = record { most = c.self.inside.most; version = c.self.inside.version; number = c.self.inside.number; taken = c.self.inside.taken }; pending = c.self.inside.pending } in
    let t = rw c.in-Whole.is at (rw c.in_ok-take_line.was at c.take_line.ensures) in
    let size : c.len.result ≡ length c.take_line.new.line.items = search rules in
    let same : c.self.inside.taken + length c.take_line.new.line.items + 1 ≡ c.self.inside.taken + (c.len.result + 1) = omega (arith, size) in
    let stands : Option Version → ℕ → ReaderModel = λ v n. record { shape = c.self.inside.shape; feed = c.self.inside.feed; at = record { most = c.self.inside.most; version = v; number = c.self.inside.number + 1; taken = n }; pending = c.take_line.new.pending } in
    let within : is_within c.self.inside.most c.in-Some.version ≡ true = subst (λ (v : Option Version). IfSome v (λ version. is_within c.self.inside.most version ≡ true)) c.in-Some.is c.self.invariant.named in
    subst (λ (v : Option Version). ReaderKeeps (stands v (c.self.inside.taken + (c.len.result + 1)))) (sym c.in-Some.is)
    (subst (λ (n : ℕ). ReaderKeeps (stands (Some c.in-Some.version) n)) same (keeps_on r c.in-Some.version c.self.invariant within t))

pub returns-in-Ok : goal.returns-in-Ok
returns-in-Ok g c =
    let r : ReaderModel = record { shape = c.self.inside.shape; feed = c.self.inside.feed; at = record { most = c.self.inside.most; version = c.self.inside.version; number = c.self.inside.number; taken = c.self.inside.taken }; pending = c.self.inside.pending } in
    let t = rw c.in-Whole.is at (rw c.in_ok-take_line.was at c.take_line.ensures) in
    let size : c.len.result ≡ length c.take_line.new.line.items = search rules in
    let same : c.self.inside.taken + length c.take_line.new.line.items + 1 ≡ c.self.inside.taken + (c.len.result + 1) = omega (arith, size) in
    let is : line_read c.self.inside.shape c.in-Some.version c.take_line.new.line.items ≡ Ok c.in-Ok.line = ap (line_read c.self.inside.shape c.in-Some.version) (sym c.deref.ensures.value) ∙ c.in-Ok.ensures in
    let stands : Option Version → ℕ → ReaderModel = λ v n. record { shape = c.self.inside.shape; feed = c.self.inside.feed; at = record { most = c.self.inside.most; version = v; number = c.self.inside.number + 1; taken = n }; pending = c.take_line.new.pending } in
    let within : is_within c.self.inside.most c.in-Some.version ≡ true = subst (λ (v : Option Version). IfSome v (λ version. is_within c.self.inside.most version ≡ true)) c.in-Some.is c.self.invariant.named in
    let old = g.D.Desk.state c.args.desk.now in
    let new = g.D.Desk.state c.take_line.new.desk in
    subst (λ (m : ReaderModel). TakesNextLine m old new (Ok (nexts.Line (stands c.self.inside.version (c.self.inside.taken + (c.len.result + 1))) c.in-Ok.line))) c.self.view_is
    (subst (λ (v : Option Version). TakesNextLine r old new (Ok (nexts.Line (stands v (c.self.inside.taken + (c.len.result + 1))) c.in-Ok.line))) (sym c.in-Some.is)
    (subst (λ (n : ℕ). TakesNextLine r old new (Ok (nexts.Line (stands (Some c.in-Some.version) n) c.in-Ok.line))) same
    (line_taken r c.in-Some.version c.in-Ok.line c.in-Some.is c.self.invariant.short is (read_fits c.self.inside.shape c.in-Some.version c.take_line.new.line.items c.in-Ok.line is)
    (read_formed c.self.inside.most c.self.inside.shape c.in-Some.version c.take_line.new.line.items c.in-Ok.line within is) t)))

pub returns-in-Err-Bad : goal.returns-in-Err-Bad
returns-in-Err-Bad g c =
    let r : ReaderModel = record { shape = c.self.inside.shape; feed = c.self.inside.feed; at = record { most = c.self.inside.most; version = c.self.inside.version; number = c.self.inside.number; taken = c.self.inside.taken }; pending = c.self.inside.pending } in
    let t = rw c.in-Whole.is at (rw c.in_ok-take_line.was at c.take_line.ensures) in
    let wrong : line_read c.self.inside.shape c.in-Some.version c.take_line.new.line.items ≡ Err c.in-Err-Bad.word = ap (line_read c.self.inside.shape c.in-Some.version) (sym c.deref.ensures.value) ∙ rw c.in-Err-Bad.field-0-is at c.in-Err-Bad.ensures in
    subst (λ (m : ReaderModel). TakesNextLine m (g.D.Desk.state c.args.desk.now) (g.D.Desk.state c.take_line.new.desk) (Err (stops.Form c.self.inside.number c.in-Err-Bad.word))) c.self.view_is (line_bad r c.in-Some.version c.in-Err-Bad.word c.in-Some.is c.self.invariant.short wrong t)
