-- What the calls promise that only `rust/trial` links: the desk over a lent row of places, and the content of a message in lent bytes. Assumes nothing.
use Rattle.std.specs.Prelude.{◌≡◌, cond, List, [], ℕ, ltb, length, set, get_or}
use Rattle.format.specs.Promises.{answered, read_record}
use Rattle.format.specs.Refusals.{Verdict}
use Rattle.packet.specs.Packet.{packets, record_of as packet_of}
use Rattle.places.specs.Desk.{refusal_of, applied, accepting, asking, dropping, laid_within}
use Rattle.places.specs.declared.Place.{Place}
use Rattle.places.specs.Replies.{Reply}
use Rattle.desk_bytes.specs.Promises.{again_of, count_of, language_of}
use Rattle.txsq.specs.Txsq.{txsqs, record_of as txsq_of}
use Rattle.txxx.specs.Txxx.{txxxs, record_of as txxx_of}

-- ---- the desk: the row of places ps, what else it is lent as in places/specs/Promises, and three numbers xs

-- what a reply leaves of the numbers: whether the packet came again, how many bytes are handed out or how many numbers are missing, the language
abbrev pub noted : Reply → List ℕ → List ℕ
noted a xs = set (set (set xs 0 (again_of a (get_or xs 0 0))) 1 (count_of a (get_or xs 1 0))) 2 (language_of a (get_or xs 2 0))

-- the same where there are three; else they stay
abbrev pub noted_within : Reply → List ℕ → List ℕ
noted_within a xs = cond (ltb (length xs) 3) xs (noted a xs)

abbrev pub AcceptsRow : List ℕ → List Place → List ℕ → List ℕ → Verdict → List ℕ → List Place → List ℕ → Type 0
AcceptsRow xs ps s m refusal ys qs t = let o = accepting ps s m in (refusal ≡ refusal_of o.reply) × (ys ≡ noted_within o.reply xs) × (qs ≡ applied ps o.change) × (t ≡ o.store)

abbrev pub AsksRow : List ℕ → List Place → List ℕ → ℕ → List ℕ → List ℕ → Verdict → List ℕ → List Place → List ℕ → List ℕ → Type 0
AsksRow xs ps s n b w refusal ys qs c v =
    let o = asking ps s n b w in
    (refusal ≡ refusal_of o.reply) × (ys ≡ noted_within o.reply xs) × (qs ≡ applied ps o.change) × (c ≡ o.notice) × (v ≡ o.missing)

abbrev pub DropsRow : List ℕ → List Place → List ℕ → ℕ → Verdict → List ℕ → List Place → Type 0
DropsRow xs ps s n refusal ys qs = let o = dropping ps s n in (refusal ≡ refusal_of o.reply) × (ys ≡ noted_within o.reply xs) × (qs ≡ applied ps o.change)

-- ---- the content of a message s; none where it is refused

abbrev pub txsq_content : List ℕ → List ℕ
txsq_content s = answered (λ r. r.1) (λ n. []) (read_record txsqs txsq_of s)

abbrev pub txxx_content : List ℕ → List ℕ
txxx_content s = answered (λ r. r.1) (λ n. []) (read_record txxxs txxx_of s)

abbrev pub packet_content : List ℕ → List ℕ
packet_content s = answered (λ r. r.1) (λ n. []) (read_record packets packet_of s)

-- content c in the front of the lent bytes b, where it fits: how many bytes it has, n, and what is left of them, d
abbrev pub Copies : List ℕ → List ℕ → ℕ → List ℕ → Type 0
Copies c b n d = (n ≡ length c) × (d ≡ laid_within b 0 c)
