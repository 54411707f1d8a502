-- That at each node each socket has one end at most, along deeds. This project's own.
use Rattle.std.specs.Prelude.{List, [], ◌∷◌, Ok}
use Rattle.std.specs.List.{AllByRecursion, IsDistinct}
use Rattle.m2_cluster.specs.Node.{NodeNow}
use Rattle.m2_cluster.specs.m2_center.Reaching.{all_ends_in}
use Rattle.m2_dispatch.specs.Heard.{Heard}
use Rattle.m2_fabric.specs.Sockets.{same_socket}
use Rattle.m2_record.specs.RecordNow.{ids_of}
use Rattle.m2_script.specs.Script.{Deed, Happens, RunNow}

-- no two of its ends are of one socket, those that wait among them
abbrev pub EndsAreApart : {D : Type 0} → NodeNow D → Type 0
EndsAreApart n = IsDistinct same_socket (ids_of (all_ends_in n.center))

abbrev pub AllEndsApart : {D : Type 0} → RunNow D → Type 0
AllEndsApart s = AllByRecursion EndsAreApart s.cluster.nodes

-- so it is behind each of these deeds, whatever those before it have come to
abbrev pub EndsStayApart : {D : Type 0} → (E : Type 0) → (D → List Heard) → List Deed → RunNow D → Type 0
EndsStayApart E heard [] s = Unit {0}
EndsStayApart {D} E heard (d ∷ ds) s = (behind : RunNow D) → Happens E heard (Ok tt) d s behind → AllEndsApart behind × EndsStayApart E heard ds behind
