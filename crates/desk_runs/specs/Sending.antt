-- A content whose packets are sent to the desk (paper 01, "Notice and packet", "The desk"): which packets are its own, which calls leave it alone, and what is to be handed out. Assumes nothing.
use Rattle.std.specs.Prelude.{◌≡◌, Bool, false, cond, ℕ, ◌<◌, length}
use mathlib.Core.List.{List, [], ◌∷◌, ◌++◌, Memᴰ}
use Rattle.format.specs.Fmt.{accepted}
use Rattle.format.specs.Message.{ahead}
use Rattle.format.specs.Promises.{read_record}
use Rattle.packet.specs.Packet.{packets, record_of}
use Rattle.packet.specs.Splitter.{packet_count, packet_of}
use Rattle.places.specs.Replies.{Joined}
use Rattle.desk_runs.specs.Runs.{Call, comes, Part, brings, frees, Given}

-- the packets of message number n that calls bring, the last of them in front
unfoldable pub brought : ℕ → List Call → List Part
brought n [] = []
brought n (c ∷ cs) = brings n c ++ brought n cs

-- the content c, sent under a message number in English or not
module _ (english : Bool) (number : ℕ) (c : List ℕ) where
  -- one of its packets
  pub record Ours (y : Part) : Type 0 where
    pub own : ℕ
    pub below : own < packet_count (length c)
    pub is : y ≡ packet_of english number c own

  -- all of them are among xs
  abbrev pub AllCame : List Part → Type 0
  AllCame xs = (k : ℕ) → k < packet_count (length c) → Memᴰ (packet_of english number c k) xs

  -- the calls cs bring each of them
  abbrev pub Sent : List Call → Type 0
  Sent cs = (k : ℕ) → k < packet_count (length c) → (m : List ℕ) × Memᴰ (comes m) cs × (read_record packets record_of m ≡ accepted (packet_of english number c k))

  -- a call that does not ask for that number or drop it, and brings no packet of it but the content's
  pub record Fair (x : Call) : Type 0 where
    pub leaves : frees number x ≡ false
    pub ours : (y : Part) → Memᴰ y (brings number x) → Ours y

  -- what asking with a buffer b and a row w is to give: the content, its length and its language
  abbrev pub handed : List ℕ → List ℕ → Given
  handed b w = record { reply = Joined (length c) (cond english 1 0); notice = ahead c b; missing = w }
