-- What holds of being the same message.
use Rattle.std.specs.Prelude.{ℕ}
use Rattle.m2_message.specs.Message.{Content, with_numbers, IsSameMessage}

abbrev pub SameIsReflexive : Type 0
SameIsReflexive = (m : Content) → IsSameMessage m m

abbrev pub SameIsSymmetric : Type 0
SameIsSymmetric = (m n : Content) → IsSameMessage m n → IsSameMessage n m

abbrev pub SameIsTransitive : Type 0
SameIsTransitive = (m n k : Content) → IsSameMessage m n → IsSameMessage n k → IsSameMessage m k

-- whatever numbers the runtime writes
abbrev pub NumbersLeaveTheSame : Type 0
NumbersLeaveTheSame = (seq ack_seq : ℕ) (m : Content) → IsSameMessage (with_numbers seq ack_seq m) m
