-- Reading a packet from left to right, up to the first fault.
use Rattle.std.specs.Prelude.{ℕ, List, [], ◌∷◌, ◌==◌, if◌then◌else◌, Result, Ok, Err}
use Rattle.far_base.specs.declared.packet.Packet.{Packet}
use Rattle.far_base.specs.declared.packet.Packet.TheVariants as packet
use Rattle.packet_codec.specs.declared.fault.BadPacket.{BadPacket}
use Rattle.packet_codec.specs.declared.fault.BadPacket.TheVariants.{Version, Kind, Rest}
use Rattle.packet_codec.specs.declared.kinds.TheConstants as kinds
use Rattle.packet_codec.specs.declared.wire.TheConstants.{VERSION}
use Rattle.packet_codec.specs.Reading.{Field, ◌>>=◌, ◌then◌, ◌into◌, made, byte_at, u32_at, u64_at, flag_at, key_at}
use Rattle.packet_codec.specs.Reading.{call_at, body_at, rec_at, held_at}

-- the fields of each kind, in their order
unfoldable pub get_req_at : Field Packet
get_req_at = made (λ f. packet.GetReq f.0 f.1 f.2) call_at

unfoldable pub write_req_at : Field Packet
write_req_at = made (λ f. packet.WriteReq f.0.0 f.0.1 f.0.2 f.1) (call_at then body_at)

unfoldable pub get_fwd_at : Field Packet
get_fwd_at = made (λ f. packet.GetFwd f.0.0 f.0.1 f.0.2 f.1) (call_at then u64_at)

unfoldable pub write_fwd_at : Field Packet
write_fwd_at = made (λ f. packet.WriteFwd f.0.0.0 f.0.0.1 f.0.0.2 f.0.1 f.1) (call_at then u64_at then body_at)

unfoldable pub get_rep_at : Field Packet
get_rep_at = made (λ f. packet.GetRep f.0.0.0.0 f.0.0.0.1 f.0.0.0.2 f.0.0.1 f.0.1 f.1)
    (call_at then u64_at then u64_at then body_at)

unfoldable pub write_rep_at : Field Packet
write_rep_at = made (λ f. packet.WriteRep f.0.0.0 f.0.0.1 f.0.0.2 f.0.1 f.1) (call_at then u64_at then body_at)

unfoldable pub get_ans_at : Field Packet
get_ans_at = made (λ f. packet.GetAns f.0.0.0.0 f.0.0.0.1 f.0.0.0.2 f.0.0.1 f.0.1 f.1)
    (call_at then u64_at then body_at then flag_at)

unfoldable pub write_ans_at : Field Packet
write_ans_at = made (λ f. packet.WriteAns f.0.0.0 f.0.0.1 f.0.0.2 f.0.1 f.1) (call_at then u64_at then flag_at)

unfoldable pub hot_at : Field Packet
hot_at = made packet.Hot key_at

unfoldable pub admit_at : Field Packet
admit_at = made (λ f. packet.Admit f.0.0.0 f.0.0.1 f.0.1 f.1) (u32_at then u32_at then key_at then u64_at)

unfoldable pub admit_ack_at : Field Packet
admit_ack_at = made (λ f. packet.AdmitAck f.0 f.1) (u32_at then u64_at)

unfoldable pub peek_at : Field Packet
peek_at = made (λ f. packet.Peek f.0.0 f.0.1 f.1) (u32_at then u32_at then u64_at)

unfoldable pub peek_ans_at : Field Packet
peek_ans_at = made (λ f. packet.PeekAns f.0.0.0.0 f.0.0.0.1 f.0.0.1 f.0.1 f.1)
    (u32_at then u64_at then flag_at then u64_at then body_at)

unfoldable pub remove_at : Field Packet
remove_at = made (λ f. packet.Remove f.0.0.0.0 f.0.0.0.1 f.0.0.1 f.0.1 f.1)
    (u32_at then u32_at then u64_at then flag_at then u64_at)

unfoldable pub remove_ans_at : Field Packet
remove_ans_at = made (λ f. packet.RemoveAns f.0.0.0.0.0 f.0.0.0.0.1 f.0.0.0.1 f.0.0.1 f.0.1 f.1)
    (u32_at then u64_at then flag_at then flag_at then u64_at then body_at)

unfoldable pub snap_start_at : Field Packet
snap_start_at = made (λ f. packet.SnapStart f.0 f.1) (u32_at then u32_at)

unfoldable pub snap_begun_at : Field Packet
snap_begun_at = made (λ f. packet.SnapBegun f.0 f.1) (u32_at then u64_at)

unfoldable pub snap_read_at : Field Packet
snap_read_at = made (λ f. packet.SnapRead f.0.0 f.0.1 f.1) (u32_at then u32_at then u32_at)

unfoldable pub snap_part_at : Field Packet
snap_part_at = made (λ f. packet.SnapPart f.0.0 f.0.1 f.1) (u32_at then u32_at then held_at)

unfoldable pub store_at : Field Packet
store_at = made (λ f. packet.Store f.0 f.1) (u64_at then rec_at)

unfoldable pub stored_at : Field Packet
stored_at = made packet.Stored u64_at

unfoldable pub release_at : Field Packet
release_at = made packet.Release u64_at

unfoldable pub ask_at : Field Packet
ask_at = made packet.Ask u32_at

unfoldable pub told_at : Field Packet
told_at = made (λ f. packet.Told f.0.0.0 f.0.0.1 f.0.1 f.1) (u32_at then u32_at then u32_at then held_at)

unfoldable pub top_ask_at : Field Packet
top_ask_at = made packet.TopAsk u32_at

unfoldable pub top_is_at : Field Packet
top_is_at = made (λ f. packet.TopIs f.0.0 f.0.1 f.1) (u32_at then u32_at then u64_at)

unfoldable pub snap_same_at : Field Packet
snap_same_at = made (λ f. packet.SnapSame f.0 f.1) (u32_at then u32_at)

unfoldable pub snap_from_at : Field Packet
snap_from_at = made (λ f. packet.SnapFrom f.0.0 f.0.1 f.1) (u32_at then u32_at then u32_at)

-- the fields of the kind of this number
unfoldable pub fields_at : ℕ → Field Packet
fields_at kind bytes =
    if kind == kinds.GET_REQ then get_req_at bytes else
    if kind == kinds.WRITE_REQ then write_req_at bytes else
    if kind == kinds.GET_FWD then get_fwd_at bytes else
    if kind == kinds.WRITE_FWD then write_fwd_at bytes else
    if kind == kinds.GET_REP then get_rep_at bytes else
    if kind == kinds.WRITE_REP then write_rep_at bytes else
    if kind == kinds.GET_ANS then get_ans_at bytes else
    if kind == kinds.WRITE_ANS then write_ans_at bytes else
    if kind == kinds.HOT then hot_at bytes else
    if kind == kinds.ADMIT then admit_at bytes else
    if kind == kinds.ADMIT_ACK then admit_ack_at bytes else
    if kind == kinds.PEEK then peek_at bytes else
    if kind == kinds.PEEK_ANS then peek_ans_at bytes else
    if kind == kinds.REMOVE then remove_at bytes else
    if kind == kinds.REMOVE_ANS then remove_ans_at bytes else
    if kind == kinds.SNAP_START then snap_start_at bytes else
    if kind == kinds.SNAP_BEGUN then snap_begun_at bytes else
    if kind == kinds.SNAP_READ then snap_read_at bytes else
    if kind == kinds.SNAP_PART then snap_part_at bytes else
    if kind == kinds.STORE then store_at bytes else
    if kind == kinds.STORED then stored_at bytes else
    if kind == kinds.RELEASE then release_at bytes else
    if kind == kinds.ASK then ask_at bytes else
    if kind == kinds.TOLD then told_at bytes else
    if kind == kinds.TOP_ASK then top_ask_at bytes else
    if kind == kinds.TOP_IS then top_is_at bytes else
    if kind == kinds.SNAP_SAME then snap_same_at bytes else
    if kind == kinds.SNAP_FROM then snap_from_at bytes else
    Err Kind

-- a kind and its fields behind this version
abbrev pub versioned : ℕ → Field Packet
versioned version bytes = if version == VERSION then (byte_at into fields_at) bytes else Err Version

-- the version, a kind and its fields
unfoldable pub packet_at : Field Packet
packet_at = byte_at into versioned

-- nothing may stand behind a packet
abbrev pub whole : Packet × List ℕ → Result Packet BadPacket
whole (packet, []) = Ok packet
whole (packet, b ∷ rest) = Err Rest

-- a packet, and then nothing
unfoldable pub packet_of : List ℕ → Result Packet BadPacket
packet_of bytes = packet_at bytes >>= whole
