-- What an end that no record has is told of the other side. This project's own.
use Rattle.std.specs.Prelude.{ℕ, Bool, if◌then◌else◌, List, [], ◌∷◌, ◌++◌, map}
use Rattle.std.specs.List.{list_any}
use Rattle.m2_fabric.specs.declared.end.News.{News}
use Rattle.m2_fabric.specs.declared.socket.SocketId.{SocketId}
use Rattle.m2_fabric.specs.End.{SeenEnd, after_news}
use Rattle.m2_fabric.specs.Kinds.{IsInMemory}
use Rattle.m2_fabric.specs.Sockets.{same_socket}
use Rattle.m2_trail.specs.Arrivals.{LooseNow}
use Rattle.m2_turn.specs.Halves.{AllHalves}
use Rattle.m2_turn.specs.Sessions.{PendingNow}

-- the first of these that passes is told something
abbrev pub first_told : {T : Type 0} → (passes : T → Bool) → (tells : T → T) → List T → List T
first_told passes tells [] = []
first_told passes tells (x ∷ xs) = if passes x then tells x ∷ xs else x ∷ first_told passes tells xs

-- ---- halves

abbrev pub is_on : SocketId → PendingNow → Bool
is_on id p = same_socket id p.half.end.id

abbrev pub pending_told : News → List ℕ → PendingNow → PendingNow
pending_told news bytes p = record p { half = record p.half { end = after_news news bytes p.half.end } }

-- ---- halves that are over

abbrev pub is_loose_on : SocketId → LooseNow → Bool
is_loose_on id l = same_socket id l.end.id

abbrev pub loose_told : News → List ℕ → LooseNow → LooseNow
loose_told news bytes l = record l { end = after_news news bytes l.end }

-- ---- both

-- their ends
abbrev pub ends_in : AllHalves → List SeenEnd
ends_in h = map (λ (p : PendingNow). p.half.end) h.pending ++ map (λ (l : LooseNow). l.end) h.loose

-- they are in memory
abbrev pub IsHalfInMemory : PendingNow → Type 0
IsHalfInMemory p = IsInMemory p.half.end

abbrev pub IsLooseInMemory : LooseNow → Type 0
IsLooseInMemory l = IsInMemory l.end

-- the first end of a socket is told of the other side
abbrev pub after_hearing : SocketId → News → List ℕ → AllHalves → AllHalves
after_hearing id news bytes h =
    if list_any (is_on id) h.pending then record h { pending = first_told (is_on id) (pending_told news bytes) h.pending }
    else record h { loose = first_told (is_loose_on id) (loose_told news bytes) h.loose }
