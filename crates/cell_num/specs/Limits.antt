-- How much of each kind there may be, and the sizes that everything goes by.
use Rattle.std.specs.Prelude.{ℕ, ◌*◌}

-- namespaces, `k` among them
abbrev pub max_namespaces : ℕ
max_namespaces = 256

-- present cells, the old and the new ones of a swap counted together
abbrev pub max_cells : ℕ
max_cells = 1024

-- cells are numbered from 1 on, and no number is used again
abbrev pub max_cell_number : ℕ
max_cell_number = 65535

abbrev pub max_tasks : ℕ
max_tasks = 64

abbrev pub max_task_number : ℕ
max_task_number = 65535

-- names in the folder
abbrev pub max_names : ℕ
max_names = 65536

-- object files, the bytes of one of them, and of all together
abbrev pub max_files : ℕ
max_files = 1024

abbrev pub max_file_bytes : ℕ
max_file_bytes = 1048576

abbrev pub max_all_bytes : ℕ
max_all_bytes = 67108864

abbrev pub max_script_bytes : ℕ
max_script_bytes = 1048576

-- the bytes of a file with a dump of the machine
abbrev pub max_dump_bytes : ℕ
max_dump_bytes = 67108864

-- the bytes of a page
abbrev pub page_size : ℕ
page_size = 4096

-- the stack of a task, and that of a swap's routines
abbrev pub stack_pages : ℕ
stack_pages = 4

abbrev pub stack_size : ℕ
stack_size = stack_pages * page_size

-- the bytes of a loaded section
abbrev pub max_section_bytes : ℕ
max_section_bytes = 16777216

-- the bytes of a section that the assembler has stored in the file
abbrev pub max_stored_bytes : ℕ
max_stored_bytes = 1048576

-- the bytes of a source of the assembler
abbrev pub max_source_bytes : ℕ
max_source_bytes = 1048576

-- pages of the memory
abbrev pub min_pages : ℕ
min_pages = 16

abbrev pub max_pages : ℕ
max_pages = 4096

-- where the memory starts
abbrev pub min_base : ℕ
min_base = 0x1000

abbrev pub max_base : ℕ
max_base = 0x7ff_ffff_f000
