-- Kinds of I/O errors as numbers, in the order of their declaration.
use Rattle.std.specs.Prelude.{ℕ, ◌≡◌, refl, slice_index_or}
use Rattle.std.specs.IoError.{kinds}
use Rattle.std.specs.Coded.{Coded, code_by, coded_ℕ}
use Rattle.std.specs.declared.io.ErrorKind.{ErrorKind}
use Rattle.std.specs.declared.io.ErrorKind.TheVariants.{NotFound, PermissionDenied, ConnectionRefused, ConnectionReset, HostUnreachable, NetworkUnreachable, ConnectionAborted, NotConnected, AddrInUse, AddrNotAvailable, NetworkDown, BrokenPipe, AlreadyExists, WouldBlock, NotADirectory, IsADirectory, DirectoryNotEmpty, ReadOnlyFilesystem, FilesystemLoop, StaleNetworkFileHandle, InvalidInput, InvalidData, TimedOut, WriteZero, StorageFull, NotSeekable, QuotaExceeded, FileTooLarge, ResourceBusy, ExecutableFileBusy, Deadlock, CrossesDevices, TooManyLinks, InvalidFilename, ArgumentListTooLong, Interrupted, Unsupported, UnexpectedEof, OutOfMemory, InProgress, Other, Uncategorized}

abbrev kind_number : ErrorKind → ℕ
kind_number NotFound = 0
kind_number PermissionDenied = 1
kind_number ConnectionRefused = 2
kind_number ConnectionReset = 3
kind_number HostUnreachable = 4
kind_number NetworkUnreachable = 5
kind_number ConnectionAborted = 6
kind_number NotConnected = 7
kind_number AddrInUse = 8
kind_number AddrNotAvailable = 9
kind_number NetworkDown = 10
kind_number BrokenPipe = 11
kind_number AlreadyExists = 12
kind_number WouldBlock = 13
kind_number NotADirectory = 14
kind_number IsADirectory = 15
kind_number DirectoryNotEmpty = 16
kind_number ReadOnlyFilesystem = 17
kind_number FilesystemLoop = 18
kind_number StaleNetworkFileHandle = 19
kind_number InvalidInput = 20
kind_number InvalidData = 21
kind_number TimedOut = 22
kind_number WriteZero = 23
kind_number StorageFull = 24
kind_number NotSeekable = 25
kind_number QuotaExceeded = 26
kind_number FileTooLarge = 27
kind_number ResourceBusy = 28
kind_number ExecutableFileBusy = 29
kind_number Deadlock = 30
kind_number CrossesDevices = 31
kind_number TooManyLinks = 32
kind_number InvalidFilename = 33
kind_number ArgumentListTooLong = 34
kind_number Interrupted = 35
kind_number Unsupported = 36
kind_number UnexpectedEof = 37
kind_number OutOfMemory = 38
kind_number InProgress = 39
kind_number Other = 40
kind_number Uncategorized = 41

abbrev kind_numbered : ℕ → ErrorKind
kind_numbered n = slice_index_or kinds n Uncategorized

pub kind_numbered-kind_number : (k : ErrorKind) → kind_numbered (kind_number k) ≡ k
kind_numbered-kind_number NotFound = refl
kind_numbered-kind_number PermissionDenied = refl
kind_numbered-kind_number ConnectionRefused = refl
kind_numbered-kind_number ConnectionReset = refl
kind_numbered-kind_number HostUnreachable = refl
kind_numbered-kind_number NetworkUnreachable = refl
kind_numbered-kind_number ConnectionAborted = refl
kind_numbered-kind_number NotConnected = refl
kind_numbered-kind_number AddrInUse = refl
kind_numbered-kind_number AddrNotAvailable = refl
kind_numbered-kind_number NetworkDown = refl
kind_numbered-kind_number BrokenPipe = refl
kind_numbered-kind_number AlreadyExists = refl
kind_numbered-kind_number WouldBlock = refl
kind_numbered-kind_number NotADirectory = refl
kind_numbered-kind_number IsADirectory = refl
kind_numbered-kind_number DirectoryNotEmpty = refl
kind_numbered-kind_number ReadOnlyFilesystem = refl
kind_numbered-kind_number FilesystemLoop = refl
kind_numbered-kind_number StaleNetworkFileHandle = refl
kind_numbered-kind_number InvalidInput = refl
kind_numbered-kind_number InvalidData = refl
kind_numbered-kind_number TimedOut = refl
kind_numbered-kind_number WriteZero = refl
kind_numbered-kind_number StorageFull = refl
kind_numbered-kind_number NotSeekable = refl
kind_numbered-kind_number QuotaExceeded = refl
kind_numbered-kind_number FileTooLarge = refl
kind_numbered-kind_number ResourceBusy = refl
kind_numbered-kind_number ExecutableFileBusy = refl
kind_numbered-kind_number Deadlock = refl
kind_numbered-kind_number CrossesDevices = refl
kind_numbered-kind_number TooManyLinks = refl
kind_numbered-kind_number InvalidFilename = refl
kind_numbered-kind_number ArgumentListTooLong = refl
kind_numbered-kind_number Interrupted = refl
kind_numbered-kind_number Unsupported = refl
kind_numbered-kind_number UnexpectedEof = refl
kind_numbered-kind_number OutOfMemory = refl
kind_numbered-kind_number InProgress = refl
kind_numbered-kind_number Other = refl
kind_numbered-kind_number Uncategorized = refl

abbrev pub coded_error_kind : Coded ErrorKind
coded_error_kind = code_by ℕ coded_ℕ kind_number kind_numbered kind_numbered-kind_number
