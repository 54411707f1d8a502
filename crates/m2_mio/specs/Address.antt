-- Addresses of the system as an ip and a port.
use Rattle.std.specs.Prelude.{ℕ, Option, Some, None}
use Rattle.std.specs.Net.Addr.{ipv4_bits}
use Rattle.std.specs.Net.Socket.{v4_ip, v4_port}
use Rattle.std.specs.declared.net.socket_addr.SocketAddr.{SocketAddr}
use Rattle.std.specs.declared.net.socket_addr.SocketAddr.TheVariants.{V4, V6}

-- the four bytes of an IPv4 address as one big-endian number, and the port; None of another address
abbrev pub ip_and_port : SocketAddr → Option (ℕ × ℕ)
ip_and_port (V4 a) = Some (ipv4_bits (v4_ip a), v4_port a)
ip_and_port (V6 a) = None
