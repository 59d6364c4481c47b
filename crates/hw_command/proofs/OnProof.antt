-- What is on Proof, by the lines that were sent there.
use Rattle.std.proofs.Common.{◌≡◌, ◌≤◌, ◌++◌, ◌∙◌, ℕ, List, [], true, Option, Some, None, refl, ap, subst, append-nil}
use Rattle.std.specs.Prelude.{IfSome, option_and_then}
use Rattle.hw_desk.specs.State.{DeskState, TrayState, put_tray}
use Rattle.hw_desk.specs.Calls.{OnlyTray}
use Rattle.hw_desk.specs.declared.desk.Tray.{Tray}
use Rattle.hw_desk.specs.declared.desk.Tray.TheVariants.{Report, Proof}
use Rattle.hw_cert.specs.declared.version.Version.{Version}
use Rattle.hw_cert.specs.Logs.{LogTold, outside_of, Outside}
use Rattle.hw_cert.specs.Texts.{cert_text}
use Rattle.hw_cert.specs.Told.{bytes_told, is_told, IsTextOf}
use Rattle.hw_cert.proofs.Telling.{some_told}
use Rattle.hw_cert.proofs.ToldText.{text_told}

-- what holds of the lines told holds of the bytes told
pub by_lines : (version : Version) {P : LogTold → Type 0} {Q : List ℕ → Type 0} (sent : Option (List ℕ)) → is_told version sent ≡ true → IfSome (option_and_then (bytes_told version) sent) P → ((told : LogTold) (bytes : List ℕ) → IsTextOf version told bytes → P told → Q bytes) → IfSome sent Q
by_lines version None told h k = tt
by_lines version {P = P} (Some bytes) told h k =
    let t = some_told (bytes_told version bytes) told in
    k t.0 bytes (text_told version bytes t.0 t.1) (subst (λ (o : Option LogTold). IfSome o P) t.1 h)

-- the text of whole lines
pub whole_text : (version : Version) {told : LogTold} {bytes : List ℕ} → IsTextOf version told bytes → told.remainder ≡ [] → bytes ≡ cert_text version told.lines
whole_text version {told = told} t e = t.text ∙ ap (λ (remainder : List ℕ). cert_text version told.lines ++ remainder) e ∙ append-nil (cert_text version told.lines)

-- no tray but Proof may have changed
only_proof : (x y : Tray → TrayState) → y Report ≡ x Report → y ≡ put_tray x Proof (y Proof)
only_proof x y e = λ i t. (at t) i
  where
    at : (t : Tray) → y t ≡ put_tray x Proof (y Proof) t
    at Report = e
    at Proof = refl

pub outside_only : {y z : DeskState} → outside_of z ≡ outside_of y → y.write_faults ≤ z.write_faults → OnlyTray Proof y z
outside_only {y = y} {z = z} e later = record {
  held = ap (λ (o : Outside). o.held) e;
  feeds = ap (λ (o : Outside). o.feeds) e;
  trays = only_proof y.trays z.trays (ap (λ (o : Outside). o.report) e);
  read_faults = ap (λ (o : Outside). o.read_faults) e;
  later = later;
}
