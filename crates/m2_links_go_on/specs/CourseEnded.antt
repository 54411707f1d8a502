-- What an event thread leaves that was on its course. This project's own.
use Rattle.std.specs.Prelude.{◌≡◌, ℕ, List, ◌++◌, map}
use Rattle.std.specs.List.{AllByRecursion, IsDistinct}
use Rattle.m2_cluster.specs.m2_center.Finishing.{RestNow}
use Rattle.m2_cluster.specs.m2_center.m2_record.RecordNow.{ids_of}
use Rattle.m2_fabric.specs.declared.socket.SocketId.{SocketId}
use Rattle.m2_fabric.specs.End.{SeenEnd}
use Rattle.m2_fabric.specs.Sockets.{is_among, same_socket}
use Rattle.m2_growth.specs.Ends.{AreOfTheirOwn}
use Rattle.m2_growth.specs.Records.{ends_of_all}
use Rattle.m2_links_go_on.specs.Course.{DialsInTime, HasCounted, LastIsGiven, missed_by}
use Rattle.m2_links_go_on.specs.Made.{NodeMade, side_made}

-- all ends that are left: those of the records, and those of halves that no record took
abbrev pub ends_left : {D : Type 0} → RestNow D → List SeenEnd
ends_left r = ends_of_all r.records ++ map (λ l. l.end) r.loose

-- The records are what they were made; the sockets that the port made, each once, are those of the ends, each of one; and what is
-- told of connects and of moments is so.
pub record HasRunItsCourse {D : Type 0} (may_give : ℕ → Type 0) (moment : ℕ) (node : NodeMade) (r : RestNow D) : Type 0 where
  pub given : may_give moment
  pub at : r.port.at ≡ node.at
  pub sides : map side_made r.records ≡ node.sides
  pub own : AreOfTheirOwn (ends_left r)
  pub once : IsDistinct same_socket r.port.made
  pub sockets : (k : SocketId) → is_among k r.port.made ≡ is_among k (ids_of (ends_left r))
  pub missed : HasCounted r.port.missed (missed_by r.records)
  pub last : AllByRecursion (LastIsGiven may_give) r.records
  pub dials : AllByRecursion (DialsInTime moment) r.records
