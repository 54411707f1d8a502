use Rattle.m2_bytes.proofs.HexText.{hex_value-hex_text}
use Rattle.m2_bytes.proofs.hexadecimal.hex_is_read_again.Goals as goal

pub returns : goal.returns
returns c = hex_value-hex_text
