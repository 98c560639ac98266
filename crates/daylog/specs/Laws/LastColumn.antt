-- The bit that a line ends in: 0 unless a field gave the refusal, so 0 for an accepted record, an unknown one and a broken one. Assumes nothing.
use Rattle.std.specs.Prelude.{◌≡◌, ℕ, suc, Bool, true, false, cond, List, [], ◌∷◌, ◌++◌, length, ◌==◌, ◌≢◌, nat_le, refl}
use Rattle.std.proofs.Common.{sym, ap, ◌∙◌, append_assoc, ne_eqb}
use Rattle.bits.specs.Bits.{field_at}
use Rattle.format.specs.Fmt.{Out, accepted, refused}
use Rattle.format.specs.Message.{read_message, told}
use Rattle.format.specs.Refusals.{placed, bare}
use Rattle.format.specs.Refusals.{Verdict}
use Rattle.gljc.specs.Gljc.{gljcs, letters as GLJC}
use Rattle.txsq.specs.Txsq.{txsqs, letters as TXSQ}
use Rattle.txxx.specs.Txxx.{txxxs, letters as TXXX}
use Rattle.txhz.specs.Txhz.{txhzs, letters as TXHZ}
use Rattle.packet.specs.Packet.{packets}
use Rattle.distress.specs.Report.{reports}
use Rattle.area.specs.Area.{areas}
use Rattle.warning.specs.Warning.{warnings}
use Rattle.ais.specs.Ais.{refusal_as as ais_refusal_as, refusal_of as ais_refusal}
use Rattle.serial.specs.Serial.{refusal_as as serial_refusal_as, refusal_of as serial_refusal}
use Rattle.daylog.specs.LinesText.{digits_by, decimal, line}
use Rattle.daylog.specs.Text.{broken}
use Rattle.daylog.specs.Records.{Entry}
use Rattle.daylog.specs.Kinds.{word, refusal_of, entry_line}
use Rattle.daylog.specs.Log.{ending_of}

-- ---- what reading a body tells

-- a number that no field gives has no bit
record Told (r : Verdict) : Type 0 where
  pub none : placed r.code ≡ false → r.bit ≡ 0

told_so : {A : Type 0} (o : Out A) → Told (told o)
told_so (accepted a) = record { none = λ h. refl }
told_so (refused c p) = record { none = λ h. ap (λ b. cond b p 0) h }

bare_so : (c : ℕ) → Told (bare c)
bare_so c = record { none = λ h. refl }

either_so : (b : Bool) {x y : Verdict} → Told x → Told y → Told (cond b x y)
either_so true x y = x
either_so false x y = y

letters_so : (letters : ℕ) (s : List ℕ) → Told (serial_refusal_as letters s)
unfolding serial_refusal_as
letters_so letters s =
    either_so (letters == GLJC) (told_so (read_message gljcs s))
    (either_so (letters == TXSQ) (told_so (read_message txsqs s))
    (either_so (letters == TXXX) (told_so (read_message txxxs s))
    (either_so (letters == TXHZ) (told_so (read_message txhzs s)) (bare_so 2))))

serial_so : (s : List ℕ) → Told (serial_refusal s)
unfolding serial_refusal
serial_so s = either_so (nat_le 12 (length s)) (either_so (field_at s 0 8 == 0x24) (letters_so (field_at s 8 32) s) (bare_so 2)) (bare_so 1)

message_so : (message : ℕ) (s : List ℕ) → Told (ais_refusal_as message s)
unfolding ais_refusal_as
message_so message s =
    either_so (message == 6) (told_so (read_message areas s)) (either_so (message == 8) (told_so (read_message warnings s)) (bare_so 2))

ais_so : (s : List ℕ) → Told (ais_refusal s)
unfolding ais_refusal
ais_so s = either_so (nat_le 23 (length s)) (message_so (field_at s 0 6) s) (bare_so 1)

kind_so : (k : ℕ) (body : List ℕ) → Told (refusal_of k body)
unfolding refusal_of
kind_so k body =
    either_so (k == 1) (serial_so body)
    (either_so (k == 2) (told_so (read_message packets body))
    (either_so (k == 3) (told_so (read_message reports body))
    (either_so (k == 4) (ais_so body)
    (bare_so 2))))

-- another kind is 2
pub unknown_told : (k : ℕ) (body : List ℕ) → (k ≢ 1) → (k ≢ 2) → (k ≢ 3) → (k ≢ 4) → refusal_of k body ≡ bare 2
unfolding refusal_of
unknown_told k body a b c d = rw (ne_eqb k 1 a, ne_eqb k 2 b, ne_eqb k 3 c, ne_eqb k 4 d)

-- ---- the lines

-- the last column is `0`
abbrev pub EndsIn0 : List ℕ → Type 0
EndsIn0 t = (front : List ℕ) × (t ≡ front ++ (0x20 ∷ 0x30 ∷ 0x0a ∷ []))

behind : (x : List ℕ) {t : List ℕ} → EndsIn0 t → EndsIn0 (x ++ t)
behind x (front, e) = (x ++ front, ap (λ l. x ++ l) e ∙ sym (append_assoc x front (0x20 ∷ 0x30 ∷ 0x0a ∷ [])))

line_ends : (n : ℕ) (w : List ℕ) (refusal : Verdict) (bytes : ℕ) → refusal.bit ≡ 0 → EndsIn0 (line n w refusal bytes)
unfolding line decimal digits_by
line_ends n w refusal bytes z =
    behind (decimal n)
    (behind (32 ∷ w) (behind (32 ∷ decimal refusal.code) (behind (32 ∷ decimal bytes) ([], ap (λ b. 32 ∷ (decimal b ++ (10 ∷ []))) z))))

-- A record's line ends in 0 unless its number is 1, 4 or 5.
pub unplaced_line : (n : ℕ) (e : Entry) → placed (refusal_of e.kind e.body).code ≡ false → EndsIn0 (entry_line n e)
unfolding entry_line
unplaced_line n e h =
    line_ends n (word e.kind) (refusal_of e.kind e.body) (length e.body) ((kind_so e.kind e.body).none h)

-- So that of an accepted record does,
pub accepted_line : (n : ℕ) (e : Entry) → (refusal_of e.kind e.body).code ≡ 0 → EndsIn0 (entry_line n e)
accepted_line n e z = unplaced_line n e (ap placed z)

-- that of a record of another kind,
pub unknown_line : (n : ℕ) (e : Entry) → (e.kind ≢ 1) → (e.kind ≢ 2) → (e.kind ≢ 3) → (e.kind ≢ 4) → EndsIn0 (entry_line n e)
unknown_line n e a b c d = unplaced_line n e (ap (λ r. placed r.code) (unknown_told e.kind e.body a b c d))

-- and that of a broken one.
pub broken_line : (n left : ℕ) → EndsIn0 (ending_of n (suc left))
broken_line n left = line_ends n broken (bare 1) (suc left) refl
