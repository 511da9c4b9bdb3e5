-- The text of an I/O error's kind.
use Rattle.std.specs.Prelude.{ℕ, List, codes}
use Rattle.std.specs.declared.io.ErrorKind.{ErrorKind}
use Rattle.std.specs.declared.io.ErrorKind.TheVariants.{NotFound, PermissionDenied, AlreadyExists, NotADirectory, IsADirectory, ReadOnlyFilesystem, FilesystemLoop, InvalidFilename, StorageFull, QuotaExceeded, FileTooLarge, BrokenPipe, ConnectionReset, TimedOut, ResourceBusy, CrossesDevices, InvalidData, UnexpectedEof, WriteZero, Interrupted, OutOfMemory}

-- the C library's text (strerror), and for the kinds that std adds what they mean for a file
abbrev pub kind_text : ErrorKind → List ℕ
kind_text NotFound = codes "No such file or directory"
kind_text PermissionDenied = codes "Permission denied"
kind_text AlreadyExists = codes "File exists"
kind_text NotADirectory = codes "Not a directory"
kind_text IsADirectory = codes "Is a directory"
kind_text ReadOnlyFilesystem = codes "Read-only file system"
kind_text FilesystemLoop = codes "Too many levels of symbolic links"
kind_text InvalidFilename = codes "File name too long"
kind_text StorageFull = codes "No space left on device"
kind_text QuotaExceeded = codes "Disk quota exceeded"
kind_text FileTooLarge = codes "File too large"
kind_text BrokenPipe = codes "Broken pipe"
kind_text ConnectionReset = codes "Connection reset by peer"
kind_text TimedOut = codes "Connection timed out"
kind_text ResourceBusy = codes "Device or resource busy"
kind_text CrossesDevices = codes "Invalid cross-device link"
kind_text InvalidData = codes "its content is malformed"
kind_text UnexpectedEof = codes "it ends too early"
kind_text WriteZero = codes "it takes no more"
kind_text Interrupted = codes "Interrupted system call"
kind_text OutOfMemory = codes "Cannot allocate memory"
kind_text _ = codes "Input/output error"
