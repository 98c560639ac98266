-- `refusal_as` takes the reading that the letters name.
use Rattle.std.proofs.Common.{refl, sym, ap, ◌∙◌, ne_eqb}
use Rattle.format.specs.Message.{read_message}
use Rattle.frame.specs.Laws.Alone.{alone, mapped_told, reading_told}
use Rattle.gljc.specs.Gljc.{gljcs, record_of as gljc_of, letters as GLJC}
use Rattle.txsq.specs.Txsq.{txsqs, record_of as txsq_of, letters as TXSQ}
use Rattle.txxx.specs.Txxx.{txxxs, record_of as txxx_of, letters as TXXX}
use Rattle.txhz.specs.Txhz.{txhzs, record_of as txhz_of, letters as TXHZ}
use Rattle.serial.specs.Serial.{refusal_as}
use Rattle.serial.proofs.refusal_as.Goals as goal

pub returns-in-1196182083 : goal.returns-in-1196182083
unfolding refusal_as
returns-in-1196182083 c =
    let s = c.args.s.now in
    mapped_told _ c.read.result c.map.result c.map.ensures.cases ∙ reading_told gljcs gljc_of s c.read.result c.read.ensures ∙ sym (ap (λ l. refusal_as l s) c.in-1196182083.is)

pub returns-in-1415074641 : goal.returns-in-1415074641
unfolding refusal_as
returns-in-1415074641 c =
    let s = c.args.s.now in
    mapped_told _ c.read-in-1415074641.result c.map-in-1415074641.result c.map-in-1415074641.ensures.cases
    ∙ reading_told txsqs (λ vs. (txsq_of vs).0) s c.read-in-1415074641.result (c.read-in-1415074641.ensures ∙ sym (alone txsq_of (read_message txsqs s))) ∙ sym (ap (λ l. refusal_as l s) c.in-1415074641.is)

pub returns-in-1415075928 : goal.returns-in-1415075928
unfolding refusal_as
returns-in-1415075928 c =
    let s = c.args.s.now in
    mapped_told _ c.read-in-1415075928.result c.map-in-1415075928.result c.map-in-1415075928.ensures.cases
    ∙ reading_told txxxs (λ vs. (txxx_of vs).0) s c.read-in-1415075928.result (c.read-in-1415075928.ensures ∙ sym (alone txxx_of (read_message txxxs s))) ∙ sym (ap (λ l. refusal_as l s) c.in-1415075928.is)

pub returns-in-1415071834 : goal.returns-in-1415071834
unfolding refusal_as
returns-in-1415071834 c =
    let s = c.args.s.now in
    mapped_told _ c.read-in-1415071834.result c.map-in-1415071834.result c.map-in-1415071834.ensures.cases ∙ reading_told txhzs txhz_of s c.read-in-1415071834.result c.read-in-1415071834.ensures ∙ sym (ap (λ l. refusal_as l s) c.in-1415071834.is)

pub returns-in_default : goal.returns-in_default
unfolding refusal_as
returns-in_default c =
    let other = c.in_default.in_default-own.rest in
    c.into.ensures ∙ sym (rw (ne_eqb _ GLJC other.0.0.0.1, ne_eqb _ TXSQ other.0.0.1, ne_eqb _ TXXX other.0.1, ne_eqb _ TXHZ other.1) refl)
