-- Numbers of the wire (TS 24.008, table 10.5.162).
use Rattle.std.specs.Prelude.{ℕ}

-- operation codes, in bits 8 to 6 of the first octet
abbrev pub create_operation : ℕ
create_operation = 1

abbrev pub delete_operation : ℕ
delete_operation = 2

abbrev pub add_operation : ℕ
add_operation = 3

abbrev pub replace_operation : ℕ
replace_operation = 4

abbrev pub remove_operation : ℕ
remove_operation = 5

abbrev pub no_operation : ℕ
no_operation = 6

-- component type identifiers
abbrev pub remote_address_type : ℕ
remote_address_type = 0x10

abbrev pub local_address_type : ℕ
local_address_type = 0x11

abbrev pub protocol_type : ℕ
protocol_type = 0x30

abbrev pub local_port_type : ℕ
local_port_type = 0x40

abbrev pub local_range_type : ℕ
local_range_type = 0x41

abbrev pub remote_port_type : ℕ
remote_port_type = 0x50

abbrev pub remote_range_type : ℕ
remote_range_type = 0x51

abbrev pub spi_type : ℕ
spi_type = 0x60

abbrev pub tos_type : ℕ
tos_type = 0x70
