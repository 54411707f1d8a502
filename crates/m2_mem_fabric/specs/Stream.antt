-- One direction of a socket, and what its writer and its reader do with it.
use Rattle.std.specs.Prelude.{◌≡◌, ℕ, ◌==◌, Bool, true, false, if◌then◌else◌, List, [], ◌∷◌, ◌++◌, length}
use Rattle.m2_fabric.specs.declared.end.EndWrite.{EndWrite}
use Rattle.m2_fabric.specs.declared.end.EndWrite.TheVariants as write
use Rattle.m2_mem_fabric.specs.declared.bells.TheConstants.{RING}

-- all bytes that were ever put, and all that were ever taken; those that were put and not taken yet, in order; whether
-- the writer is gone, and whether the reader is; and a mark for each ring of the reader's bells
pub record Flow : Type 0 where
  pub put : List ℕ
  pub taken : List ℕ
  pub waiting : List ℕ
  pub ended : Bool
  pub abandoned : Bool
  pub rung : List ℕ

-- What was put is what was taken, then what waits, and then what a reader that is gone left unread.
pub record IsInOrder (abandoned : Bool) (put taken waiting : List ℕ) : Type 0 where
  pub left : List ℕ
  pub whole : put ≡ taken ++ (waiting ++ left)
  pub all : abandoned ≡ false → left ≡ []

abbrev pub nothing_flowed : Flow
nothing_flowed = record { put = []; taken = []; waiting = []; ended = false; abandoned = false; rung = [] }

-- a piece is put behind what waits, and the reader is woken where nothing waited
abbrev pub with_piece : List ℕ → Flow → Flow
with_piece piece f = record f {
  put = f.put ++ piece;
  waiting = f.waiting ++ piece;
  rung = if length f.waiting == 0 then f.rung ++ RING ∷ [] else f.rung;
}

-- Putting a piece, by the answer: whole, and only while the reader is there; Failed only where it is gone.
abbrev pub Puts : EndWrite → List ℕ → Flow → Flow → Type 0
Puts (write.Put n) piece old new = (n ≡ length piece) × (old.abandoned ≡ false) × (new ≡ with_piece piece old)
Puts write.NotYet piece old new = ⊥
Puts write.Failed piece old new = (old.abandoned ≡ true) × (new ≡ old)
Puts write.NoMemory piece old new = new ≡ old

-- Taking all that waits, and whether nothing more will come.
pub record TakesAll (ended : Bool) (taken : List ℕ) (old new : Flow) : Type 0 where
  pub bytes : taken ≡ old.waiting
  pub at_end : ended ≡ old.ended
  pub rest : new ≡ record old { taken = old.taken ++ taken; waiting = [] }

-- the writer is gone, and the reader is woken
abbrev pub after_ending : Flow → Flow
after_ending f = record f { ended = true; rung = f.rung ++ RING ∷ [] }

abbrev pub after_abandoning : Flow → Flow
after_abandoning f = record f { waiting = []; abandoned = true }
