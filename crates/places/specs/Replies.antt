-- What a call of the desk answers, as the definitions see it: a refusal is one of the replies, by its number. Assumes nothing.
use Rattle.std.specs.Prelude.{ℕ, Result, Ok, Err}
use Rattle.format.specs.Refusals.{Verdict, seen_refusal}
use Rattle.format.specs.declared.Refusal.{Refusal}
use Rattle.places.specs.declared.Place.{Place}
use Rattle.places.specs.declared.Reply.{Reply as Declared}
use Rattle.places.specs.declared.Reply.TheVariants as code
use Rattle.places.specs.declared.Turn.{Turn as DeclaredTurn}

-- a packet accepted or a notice dropped; the same packet again; a notice handed out, its bytes and language; how many numbers are missing
pub data Reply : Type 0 where
  Done : Reply
  Again : Reply
  Joined : (bytes language : ℕ) → Reply
  Missing : (numbers : ℕ) → Reply
  Refused : Verdict → Reply

-- what a call makes of the places: place `at` becomes `place`, and no other changes
pub record Turn : Type 0 where
  pub at : ℕ
  pub place : Place
  pub reply : Reply

abbrev pub said : Declared → Reply
said code.Done = Done
said code.Again = Again
said (code.Joined n l) = Joined n l
said (code.Missing n) = Missing n

abbrev pub replied : Result Declared Refusal → Reply
replied (Ok a) = said a
replied (Err f) = Refused (seen_refusal f)

-- where the first place is p: a refusal leaves it as it is
abbrev pub turned : Place → Result DeclaredTurn Refusal → Turn
turned p (Ok t) = record { at = t.at; place = t.place; reply = said t.reply }
turned p (Err f) = record { at = 0; place = p; reply = Refused (seen_refusal f) }
