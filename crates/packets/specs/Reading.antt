-- What a packet is read as: checks 1 to 6 of document 01, in its order.
-- Assumes nothing.
use Rattle.std.specs.Prelude.{ℕ, ◌-◌, List, Bool, not, cond, ◌&&◌, ◌||◌, ltb, leb, eqb, length, get_or, take}
use Rattle.crc.specs.Crc.{crc_of}
use Rattle.packets.specs.declared.Parsed.{Parsed}
use Rattle.packets.specs.declared.Parsed.TheVariants.{Nothing, Error, Acknowledgement, Asked}
use Rattle.numbers.specs.Numbers.{number_at}
use Rattle.packets.specs.Commands.{code_row, is_code}

-- the first, the second and the third byte
abbrev pub first : List ℕ → ℕ
first packet = get_or packet 0 0

abbrev pub second : List ℕ → ℕ
second packet = get_or packet 1 0

abbrev pub third : List ℕ → ℕ
third packet = get_or packet 2 0

-- the CRC is right: the last two bytes, high byte first, are that of all before them
unfoldable pub crc_right : List ℕ → Bool
crc_right packet = eqb (crc_of (take (length packet - 2) packet)) (number_at packet (length packet - 2) 2)

-- acknowledgement form: 5 bytes, right CRC, first byte 0x90 to 0x9F, and either second byte 0x01 with third 0x7E, or second byte 0x09
unfoldable pub acknowledges : List ℕ → Bool
acknowledges packet =
    eqb (length packet) 5 && crc_right packet && leb 0x90 (first packet) && leb (first packet) 0x9F
    && (eqb (second packet) 0x01 && eqb (third packet) 0x7E || eqb (second packet) 0x09)

-- checks in this order: 1 empty packet, 2 under 4 bytes or CRC wrong, 3 acknowledgement form, 4 first byte not a code,
-- 5 second byte not 0x01, 6 length not the code's
unfoldable pub packet_read : List ℕ → Parsed
packet_read p =
    cond (eqb (length p) 0) Nothing
    (cond (ltb (length p) 4 || not (crc_right p)) (Error (first p) 0x01)
    (cond (acknowledges p) (Acknowledgement (first p) (eqb (second p) 0x01))
    (cond (not (is_code (first p))) (Error (first p) 0x02)
    (cond (not (eqb (second p) 0x01)) (Error (first p) 0x3C)
    (cond (not (eqb (length p) (code_row (first p)).bytes)) (Error (first p) 0x01)
    (Asked ((code_row (first p)).command p)))))))
